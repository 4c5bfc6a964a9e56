use Rattle.quota_cells.proofs.EnterLaws.{leaves_left, fits_left}
use Rattle.quota_cells.proofs.Cells.leave.Goals as goal

pub returns-clause-leaves : goal.returns-clause-leaves
returns-clause-leaves c = rw c.drop_cell.ensures.cells
    (leaves_left c.args.self.now c.drop_cell.ensures.table c.args.uid c.requires.cell c.requires.quota
    c.requires.stored)

pub returns-clause-fits : goal.returns-clause-fits
returns-clause-fits c nodes same fewer fits = fits_left nodes c.args.uid c.args.self.now c.drop_cell.new.self fits
    (rw c.drop_cell.ensures.cells (leaves_left c.args.self.now c.drop_cell.ensures.table c.args.uid c.requires.cell
    c.requires.quota c.requires.stored)) same fewer
