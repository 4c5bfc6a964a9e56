use Rattle.machine_tables.proofs.Prelude.{◌≡◌, least_from, test_of}
use Rattle.machine_tables.proofs.reading.least_read.Given as goal

abbrev pub invariant-loop-place : goal.invariant-loop-place
invariant-loop-place l = l.least ≡ least_from l.uid (test_of l.pages) l.processors l.place
