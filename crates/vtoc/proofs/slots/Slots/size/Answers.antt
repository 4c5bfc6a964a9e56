use Rattle.vtoc.proofs.Held.{size_slots}
use Rattle.vtoc.proofs.slots.Slots.size.Goals as goal

pub returns : goal.returns
returns c = size_slots c.self.invariant c.self.view_is
