use Rattle.vtoc.proofs.Held.{List, Option, Slot, ap, arith, held_read, roomy_set, set, set_held, slot_with, used_held, ℕ, ◌∙◌}
use Rattle.vtoc.proofs.slots.Slots.put.Goals as goal

pub index_mut-requires : goal.index_mut-requires
index_mut-requires c = let held = used_held _ _ c.args.e _ c.self.view_is c.requires.used in omega (arith, held)

pub invariant_of-self : goal.invariant_of-self
invariant_of-self c = roomy_set c.args.e _ c.self.invariant

pub returns : goal.returns
returns c =
    let held = used_held _ _ c.args.e _ c.self.view_is c.requires.used in
    set_held _ _ c.args.e c.self.view_is held
    (ap (λ (m : List (Option ℕ)). slot_with c.index_mut.result.now.uid m) c.put.ensures ∙ ap (λ (s : Slot). slot_with
    s.uid (set s.map c.args.p c.args.r)) (held_read _ _ c.args.e c.self.view_is held c.index_mut.ensures.value))
