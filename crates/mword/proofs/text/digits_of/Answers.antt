use Rattle.mword.proofs.Prelude.{arith, sym, subst, IsUtf8}
use Rattle.mword.proofs.OctalLaws.{octal_digits_end, octal_digits_text}
use Rattle.mword.proofs.text.digits_of.Goals as goal

pub returns-clause-digits : goal.returns-clause-digits
returns-clause-digits c = octal_digits_end _ _ _ _ (omega arith) c.loop-place.invariant.written

pub returns-clause-text : goal.returns-clause-text
returns-clause-text c = subst IsUtf8 (sym (octal_digits_end _ _ _ _ (omega arith) c.loop-place.invariant.written))
    (octal_digits_text 12 c.args.word)
