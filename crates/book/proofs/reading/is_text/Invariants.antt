use Rattle.book.proofs.Prelude.{◌≡◌, ℕ, ◌<◌, get_or}
use Rattle.book.proofs.reading.is_text.Given as goal

-- each byte before it is the same
abbrev pub invariant-loop-i : goal.invariant-loop-i
invariant-loop-i l = (k : ℕ) → k < l.i → get_or l.word k 0 ≡ get_or l.text k 0
