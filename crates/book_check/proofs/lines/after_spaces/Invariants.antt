use Rattle.book_check.proofs.Prelude.{◌≡◌, drop, after_spaces}
use Rattle.book_check.proofs.lines.after_spaces.Given as goal

-- only spaces came so far
abbrev pub invariant-loop-i : goal.invariant-loop-i
invariant-loop-i l = after_spaces (drop l.i l.line) ≡ after_spaces l.line
