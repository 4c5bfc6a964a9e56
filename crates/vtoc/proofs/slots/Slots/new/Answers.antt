use Rattle.vtoc.proofs.Held.{new_slots}
use Rattle.vtoc.proofs.slots.Slots.new.Goals as goal

pub returns : goal.returns
returns c = new_slots c.args.size c.in_ok-held.ensures.items
