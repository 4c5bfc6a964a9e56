use Rattle.custody.proofs.TallyLaws.{descriptors_kept, descriptors_few}
use Rattle.custody.proofs.descriptors.Descriptors.put.Goals as goal

pub shift-requires-clause-few : goal.shift-requires-clause-few
shift-requires-clause-few c = descriptors_few c.self.inside.uses.items c.reserve.new.self
    (descriptors_kept c.self.inside.uses.items c.self.inside.counts c.reserve.new.self c.self.invariant
    c.reserve.ensures.keeps)
