use Rattle.seg_control.proofs.Connected.{cut_place, cut_there, leading, linked_cut}
use Rattle.seg_control.proofs.Resting.{kept_linked}
use Rattle.seg_control.proofs.segs.Segs.cut_one.Goals as goal

pub cut-requires-clause-place : goal.cut-requires-clause-place
cut-requires-clause-place g c = cut_place c.args.process c.args.number c.self.invariant.kept.linked
    (leading _ c.args.process c.args.number _ _ c.in-Present.ensures.word c.descriptors.ensures)

pub cut-requires-clause-there : goal.cut-requires-clause-there
cut-requires-clause-there g c = cut_there c.args.process c.args.number c.self.invariant.kept.linked
    (leading _ c.args.process c.args.number _ _ c.in-Present.ensures.word c.descriptors.ensures)

pub invariant_of-self : goal.invariant_of-self
invariant_of-self g c =
    kept_linked c.self.invariant (rw c.cut.ensures (linked_cut c.args.process c.args.number c.self.invariant.kept.linked
    (leading _ c.args.process c.args.number _ _ c.in-Present.ensures.word c.descriptors.ensures)))
