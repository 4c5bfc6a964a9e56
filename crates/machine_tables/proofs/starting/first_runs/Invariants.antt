use Rattle.machine_tables.proofs.Prelude.{◌≡◌, replicate, first_run}
use Rattle.machine_tables.proofs.starting.first_runs.Given as goal

abbrev pub invariant-loop-place : goal.invariant-loop-place
invariant-loop-place l = l.runs.items ≡ replicate l._place first_run
