use Rattle.mword.proofs.Prelude.{◌≡◌, ◌++◌, length, drop, octal_digits}
use Rattle.mword.proofs.text.digits_of.Given as goal

abbrev pub invariant-loop-place : goal.invariant-loop-place
invariant-loop-place l = record {
  size : length l.digits ≡ 12;
  written : octal_digits l.place l.rest ++ drop l.place l.digits ≡ octal_digits 12 l.fn.word;
}
