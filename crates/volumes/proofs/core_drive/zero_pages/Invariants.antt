use Rattle.volumes.proofs.Prelude.{replicate, vec_capacity, ◌≡◌}
use Rattle.volumes.proofs.core_drive.zero_pages.Given as goal

abbrev pub invariant-loop : goal.invariant-loop
invariant-loop l = (l.pages.items ≡ replicate l.counter (replicate 1024 0)) × (vec_capacity l.pages ≡ l.count)
