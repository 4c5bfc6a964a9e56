use Rattle.volumes.proofs.Prelude.{length, replicate, vec_capacity, ◌++◌, ◌-◌, ◌≡◌, ◌≤◌}
use Rattle.volumes.proofs.core_pages.reach.Given as goal

abbrev pub invariant-loop : goal.invariant-loop
invariant-loop l = (l.written.items ≡ l.initial.written.items ++ replicate (l.counter - length l.initial.written.items)
    (replicate 1024 0)) × (vec_capacity l.written ≡ vec_capacity l.initial.written) × (length l.initial.written.items
    ≤ l.counter)
