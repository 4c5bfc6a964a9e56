use Rattle.book.proofs.Prelude.{map}
use Rattle.book.proofs.Words.{Taken}
use Rattle.book.proofs.reading.read_words.Given as goal

-- the words before the last space so far were taken
abbrev pub invariant-loop-i : goal.invariant-loop-i
invariant-loop-i l = Taken (map (λ w. w.now) l.words.items) l.line l.start l.i
