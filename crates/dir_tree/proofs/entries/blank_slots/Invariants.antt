use Rattle.dir_tree.proofs.Prelude.{◌≡◌, length, vec_capacity}
use Rattle.dir_tree.proofs.entries.blank_slots.Given as goal

abbrev pub invariant-loop : goal.invariant-loop
invariant-loop l = (length l.slots.items ≡ l.counter) × (vec_capacity l.slots ≡ 4097)
