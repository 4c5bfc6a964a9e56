use Rattle.quota_cells.proofs.Prelude.{◌≡◌, ◌≤◌, ◌-◌, ◌++◌, length, replicate, vec_capacity}
use Rattle.quota_cells.proofs.by_uid.reach.Given as goal

abbrev pub invariant-loop : goal.invariant-loop
invariant-loop g l =
    (l.held.items ≡ l.initial.held.items ++ replicate (l.counter - length l.initial.held.items) l.blank)
    × (vec_capacity l.held ≡ vec_capacity l.initial.held) × (length l.initial.held.items ≤ l.counter)
