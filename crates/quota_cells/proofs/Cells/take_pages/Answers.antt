use Rattle.quota_cells.proofs.Prelude.{ap, CellMaps, credited}
use Rattle.quota_cells.proofs.Cells.take_pages.Goals as goal

pub count-requires-clause-room : goal.count-requires-clause-room
count-requires-clause-room c = rw (← c.self.view_is) at c.requires.loads

pub invariant_of-self : goal.invariant_of-self
invariant_of-self c = rw (c.count.ensures, c.set.ensures, c.look.ensures) (rw (← c.self.view_is) at c.requires.table)

pub returns : goal.returns
returns c =
    rw (c.count.ensures, c.set.ensures, c.look.ensures)
    (ap (λ (m : CellMaps). credited m c.args.up.now c.args.seg c.args.pages) c.self.view_is)
