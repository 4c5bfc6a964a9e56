use Rattle.vtoc.proofs.Held.{Slot, ap, arith, common_steps, get_or, held_read, length, past_read, ◌<◌, ◌≡◌}
use Rattle.vtoc.proofs.slots.Slots.uid.Goals as goal

pub returns-in-Some : goal.returns-in-Some
returns-in-Some c =
    let held : c.args.e < length c.self.inside.held.items = grind (arith, common_steps) in
    let read : c.in-Some.slot.now ≡ get_or c.self.inside.held.items c.args.e c.in-Some.slot.now =
    grind (arith, common_steps) in
    ap (λ (s : Slot). s.uid) (held_read _ _ c.args.e c.self.view_is held read)

pub returns-in-None : goal.returns-in-None
returns-in-None c = past_read _ _ c.args.e c.self.view_is (grind (arith, common_steps))
