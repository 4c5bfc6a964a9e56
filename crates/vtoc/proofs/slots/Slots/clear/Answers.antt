use Rattle.vtoc.proofs.Held.{None, Slot, ap, arith, held_read, roomy_set, set_held, slot_with, used_held}
use Rattle.vtoc.proofs.slots.Slots.clear.Goals as goal

pub index_mut-requires : goal.index_mut-requires
index_mut-requires c = let held = used_held _ _ c.args.e _ c.self.view_is c.requires in omega (arith, held)

pub invariant_of-self : goal.invariant_of-self
invariant_of-self c = roomy_set c.args.e _ c.self.invariant

pub returns : goal.returns
returns c =
    let held = used_held _ _ c.args.e _ c.self.view_is c.requires in
    set_held _ _ c.args.e c.self.view_is held
    (ap (λ (s : Slot). slot_with None s.map) (held_read _ _ c.args.e c.self.view_is held c.index_mut.ensures.value))
