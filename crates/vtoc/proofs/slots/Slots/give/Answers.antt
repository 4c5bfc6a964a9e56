use Rattle.vtoc.proofs.Held.{Slot, Some, ap, arith, at_end, common_steps, held_read, length, push_held, refl, roomy_push, set_held, size_slots, slot_with, ◌<◌}
use Rattle.vtoc.proofs.slots.Slots.give.Goals as goal

pub push_reserved-requires : goal.push_reserved-requires
push_reserved-requires c =
    let end = at_end _ _ c.self.view_is (grind (arith, common_steps)) c.requires.before in
    omega (arith, size_slots c.self.invariant c.self.view_is, end, c.requires.within, c.self.invariant.roomy)

pub invariant_of-self-else-e-len : goal.invariant_of-self-else-e-len
invariant_of-self-else-e-len c =
    let end = at_end _ _ c.self.view_is (grind (arith, common_steps)) c.requires.before in
    let lt : c.args.e
    < c.self.inside.size = omega (arith, size_slots c.self.invariant c.self.view_is, c.requires.within) in
    roomy_push _ c.self.invariant c.push_reserved.ensures.capacity end lt c.push_reserved.ensures.items

pub returns-then-e-len : goal.returns-then-e-len
returns-then-e-len c =
    let held : c.args.e < length c.self.inside.held.items = grind (arith, common_steps) in
    set_held _ _ c.args.e c.self.view_is held (ap (λ (s : Slot). slot_with (Some c.args.uid) s.map)
    (held_read _ _ c.args.e c.self.view_is held c.index_mut.ensures.value))

pub returns-else-e-len : goal.returns-else-e-len
returns-else-e-len c =
    let end = at_end _ _ c.self.view_is (grind (arith, common_steps)) c.requires.before in
    let lt : c.args.e
    < c.self.inside.size = omega (arith, size_slots c.self.invariant c.self.view_is, c.requires.within) in
    push_held _ _ _ c.self.view_is end lt c.push_reserved.ensures.items refl c.new.ensures
