use Rattle.reasons.proofs.Prelude.{◌≡◌, ◌+◌, ◌≤◌, length, lines_of, Passes}
use Rattle.reasons.proofs.passing.go_over.Given as goal

-- the lines so far were accepted
abbrev pub invariant-loop-line : goal.invariant-loop-line
invariant-loop-line l = record {
  passed : Passes l.judge l.first (lines_of l.lines) (lines_of l.rest) l.since.reason l.since.line;
  fewer : l.judge.entries + length l.rest ≤ length l.lines;
  place : l.number ≡ l.first + l.judge.entries;
  script : l.judge.script ≡ l.fn.judge.script;
  reason : l.since.reason ≡ l.fn.since.reason;
}

abbrev pub decreases-loop-line : goal.decreases-loop-line
decreases-loop-line l = length l.rest
