use Rattle.schedule.proofs.Prelude.{fields_of, length, ◌++◌, ◌≡◌}
use Rattle.schedule.proofs.reading.opening_of.Given as goal

-- the fields so far, and those that are left, are all
abbrev pub invariant-loop-rest : goal.invariant-loop-rest
invariant-loop-rest l = l.opening ++ fields_of l.rest ≡ fields_of l.line

abbrev pub decreases-loop-rest : goal.decreases-loop-rest
decreases-loop-rest l = length l.rest
