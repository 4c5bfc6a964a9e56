use Rattle.lab_runs.proofs.Prelude.{Gathers}
use Rattle.lab_runs.proofs.counting.outcomes_text.Given as goal

-- the table of so many runs
abbrev pub invariant-loop-run : goal.invariant-loop-run
invariant-loop-run l = Gathers l.bytes l.seed l.run l.table
