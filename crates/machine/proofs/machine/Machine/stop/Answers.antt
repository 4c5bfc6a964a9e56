use Rattle.machine.proofs.RestLaws.{rest_sound}
use Rattle.machine.proofs.machine.Machine.stop.Goals as goal

pub invariant_of-self : goal.invariant_of-self
invariant_of-self g c = rw c.stop.ensures (rest_sound _ _ _ c.self.invariant)
