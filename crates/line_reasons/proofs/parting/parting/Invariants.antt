use Rattle.line_reasons.proofs.Prelude.{◌≡◌, ◌≤◌, ◌+◌, length, lines_of, same_front}
use Rattle.line_reasons.proofs.parting.parting.Given as goal

-- the lines so far are the same
abbrev pub invariant-loop-left : goal.invariant-loop-left
invariant-loop-left l = record {
  same :
      same_front (lines_of l.given) (lines_of l.due) ≡ l.same + same_front (lines_of l.left) (lines_of l.wanted);
  fewer : l.same + length l.left ≤ length l.given;
}

abbrev pub decreases-loop-left : goal.decreases-loop-left
decreases-loop-left l = length l.left
