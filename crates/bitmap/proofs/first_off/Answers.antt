use Rattle.bitmap.proofs.Levels.{all_on, arith, first_in_word}
use Rattle.bitmap.proofs.first_off.Goals as goal

pub returns-then-word-clause-some : goal.returns-then-word-clause-some
returns-then-word-clause-some c = rw c.trailing_ones.ensures (first_in_word c.args.words.now c.loop-i.i
    (omega arith) c.if-word.true (omega (arith, c.type_inv.words c.loop-i.i)) c.loop-i.invariant)

pub returns-clause-none : goal.returns-clause-none
returns-clause-none c = all_on c.args.words.now (λ v lt. c.loop-i.invariant v (omega arith))
