use Rattle.reasons.proofs.Prelude.{◌≡◌, length, list_any, lines_of, is_book}
use Rattle.reasons.proofs.asking.has_book.Given as goal

-- none of the lines so far is the line `book`
abbrev pub invariant-loop-rest : goal.invariant-loop-rest
invariant-loop-rest l = list_any is_book (lines_of l.bytes) ≡ list_any is_book (lines_of l.rest)

abbrev pub decreases-loop-rest : goal.decreases-loop-rest
decreases-loop-rest l = length l.rest
