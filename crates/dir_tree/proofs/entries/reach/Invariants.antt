use Rattle.dir_tree.proofs.Prelude.{◌≡◌, ◌≤◌, ◌+◌, ◌-◌, ◌++◌, length, replicate, vec_capacity}
use Rattle.dir_tree.proofs.entries.reach.Given as goal

-- the counter stops past the uid, unless it began there
abbrev pub invariant-loop : goal.invariant-loop
invariant-loop l =
    (l.places.items ≡ l.initial.places.items ++ replicate (l.counter - length l.initial.places.items) 65535)
    × (vec_capacity l.places ≡ vec_capacity l.initial.places) × (length l.initial.places.items ≤ l.counter)
    × (l.counter - length l.initial.places.items ≤ l.uid + 1 - length l.initial.places.items)
