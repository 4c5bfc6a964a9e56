use Rattle.outcomes.proofs.Prelude.{◌≡◌, length, has_line}
use Rattle.outcomes.proofs.lines.has_line.Given as goal

-- the line stands in the text where it does in what is left
abbrev pub invariant-loop-line : goal.invariant-loop-line
invariant-loop-line l = has_line l.line l.rest ≡ has_line l.line l.text

abbrev pub decreases-loop-line : goal.decreases-loop-line
decreases-loop-line l = length l.rest
