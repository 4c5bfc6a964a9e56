use Rattle.quota_cells.proofs.Prelude.{◌∙◌, ap, both_maps, CellMaps, given}
use Rattle.quota_cells.proofs.Cells.give.Goals as goal

pub give-requires : goal.give-requires
give-requires c = rw (← c.self.view_is) at c.requires.can

pub invariant_of-self : goal.invariant_of-self
invariant_of-self c = rw c.give.ensures (rw (← c.self.view_is) at c.requires.table)

pub returns : goal.returns
returns c = ap (λ (m : CellMaps). both_maps m c.self.inside.segments) c.give.ensures
    ∙ ap (λ (m : CellMaps). given m c.args.getter.directory c.args.getter.above.now c.args.giver.directory
    c.args.giver.above.now c.args.pages) c.self.view_is
