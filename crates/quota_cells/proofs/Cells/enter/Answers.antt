use Rattle.quota_cells.proofs.Prelude.{◌≡◌, ℕ, Bool, false, List, ◌∷◌, Node, is_in, shapes, HasChains, CellMaps, Enters, Fits}
use Rattle.quota_cells.proofs.EnterLaws.{enters_entered, fits_entered}
use Rattle.quota_cells.proofs.Cells.enter.Goals as goal

fitted : (nodes : List Node) (n : Node) (old new : CellMaps) (uid : ℕ) (dir : Bool) → n.uid ≡ uid → n.dir ≡ dir
    → is_in nodes uid ≡ false
    → HasChains (shapes nodes) → Fits nodes old → Enters old new uid dir → Fits (n ∷ nodes) new
fitted nodes n old new uid dir is_uid is_dir absent chains fits enters =
    fits_entered nodes n old new fits chains (rw is_uid absent) (rw (is_uid, is_dir) enters)

pub returns-clause-enters : goal.returns-clause-enters
returns-clause-enters c = rw c.add_cell.ensures.cells
    (enters_entered c.args.self.now c.add_cell.ensures.table c.args.uid c.requires.absent c.args.dir)

pub returns-clause-fits : goal.returns-clause-fits
returns-clause-fits c nodes n uid dir absent chains fits =
    fitted nodes n c.args.self.now c.add_cell.new.self c.args.uid c.args.dir uid dir absent chains fits
    (rw c.add_cell.ensures.cells
    (enters_entered c.args.self.now c.add_cell.ensures.table c.args.uid c.requires.absent c.args.dir))
