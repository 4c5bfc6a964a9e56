use Rattle.legal_reasons.proofs.Prelude.{arith}
use Rattle.legal_reasons.proofs.ReasonLaws.{all_words_zero, words_so_far}
use Rattle.legal_reasons.proofs.pages.first_word.Goals as goal

pub loop-at-preserved : goal.loop-at-preserved
loop-at-preserved c = λ p s shown small i lt. words_so_far s c.args.uid c.args.page c.loop-at.at c.has_word_at.result
    (c.has_word_at.ensures p s shown) c.if-has_word_at.false small (omega arith)
    (c.loop-at.invariant p s shown small) i (omega (arith, lt))

pub returns-clause-none : goal.returns-clause-none
returns-clause-none c = λ p s shown small. all_words_zero s c.args.uid c.args.page c.loop-at.at (omega arith)
    (c.loop-at.invariant p s shown small)
