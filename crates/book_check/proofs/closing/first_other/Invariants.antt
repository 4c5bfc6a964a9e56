use Rattle.book_check.proofs.Prelude.{◌+◌, ◌≤◌, length, lines_of}
use Rattle.book_check.proofs.SameLaws.{AreSame}
use Rattle.book_check.proofs.closing.first_other.Given as goal

-- the lines so far are those that are due
abbrev pub invariant-loop-left : goal.invariant-loop-left
invariant-loop-left l = record {
  same : AreSame (lines_of l.given) (lines_of l.due) (lines_of l.left) (lines_of l.wanted) l.same;
  fewer : l.same + length l.left ≤ length l.given;
}

abbrev pub decreases-loop-left : goal.decreases-loop-left
decreases-loop-left l = length l.left
