use Rattle.quota_cells.proofs.Prelude.{ap, CellMaps, charged}
use Rattle.quota_cells.proofs.Cells.add_page.Goals as goal

pub count-requires-clause-room : goal.count-requires-clause-room
count-requires-clause-room c = rw (← c.self.view_is) at c.requires.room

pub invariant_of-self : goal.invariant_of-self
invariant_of-self c =
    rw (c.count.ensures, c.set.ensures, c.look-pages.ensures) (rw (← c.self.view_is) at c.requires.table)

pub returns : goal.returns
returns c =
    rw (c.count.ensures, c.set.ensures, c.look-pages.ensures)
    (ap (λ (m : CellMaps). charged m c.args.up.now c.args.seg) c.self.view_is)
