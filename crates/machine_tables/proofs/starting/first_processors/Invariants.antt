use Rattle.machine_tables.proofs.Prelude.{◌≡◌, replicate, no_processor}
use Rattle.machine_tables.proofs.starting.first_processors.Given as goal

abbrev pub invariant-loop-place : goal.invariant-loop-place
invariant-loop-place l = l.processors.items ≡ replicate l._place no_processor
