use Rattle.drill.proofs.Prelude.{sums_of, ◌≡◌}
use Rattle.drill.proofs.work.sums_of.Given as goal

abbrev pub invariant-loop : goal.invariant-loop
invariant-loop l = l.sums.items ≡ sums_of l.fn.size.frames l.fn.size.adds l.fn.size.seed l.counter
