use Rattle.lab_runs.proofs.Prelude.{numbers, ◌++◌, ◌≡◌}
use Rattle.lab_runs.proofs.following.push_numbers.Given as goal

abbrev pub invariant-loop-c : goal.invariant-loop-c
invariant-loop-c l = l.cpus.items ≡ l.fn.cpus.items ++ numbers l.c
