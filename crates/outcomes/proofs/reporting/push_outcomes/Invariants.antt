use Rattle.outcomes.proofs.Prelude.{◌≡◌, ◌+◌, ◌++◌, drop, outcomes_text}
use Rattle.outcomes.proofs.reporting.push_outcomes.Given as goal

-- the text so far, and that of the outcomes that are left
abbrev pub invariant-loop-place : goal.invariant-loop-place
invariant-loop-place l = l.out.items ++ outcomes_text (l.place + 1) (drop l.place l.outcomes) l.runs
    ≡ l.fn.out.items ++ outcomes_text 1 l.outcomes l.runs
