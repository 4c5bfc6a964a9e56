use Rattle.book.proofs.Prelude.{List, ap, ◌∙◌, map, arith, common_steps}
use Rattle.book.proofs.Words.{taken_full, taken_last}
use Rattle.book.proofs.reading.read_words.Goals as goal

pub returns-then-is_full-clause-no : goal.returns-then-is_full-clause-no
returns-then-is_full-clause-no c = λ e. taken_full (λ w. w.now) c.loop-i.words.items c.args.line.now c.loop-i.start
    c.loop-i.i c.loop-i.invariant (grind (arith, common_steps))

pub returns-clause-yes : goal.returns-clause-yes
returns-clause-yes c = λ e. ap (λ (xs : List _). map (λ w. w.now) xs) c.push-2.ensures.items
    ∙ taken_last (λ w. w.now) c.loop-i.words.items _ c.args.line.now c.loop-i.start c.loop-i.i c.loop-i.invariant
    (grind (arith, common_steps)) (grind (arith, common_steps))
