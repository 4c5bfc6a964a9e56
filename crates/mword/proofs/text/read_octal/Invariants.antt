use Rattle.mword.proofs.Prelude.{◌≡◌, ◌<◌, ◌^◌, true, take, list_all, octal_number, is_octal_digit}
use Rattle.mword.proofs.text.read_octal.Given as goal

abbrev pub invariant-loop-byte : goal.invariant-loop-byte
invariant-loop-byte l = record {
  digits : list_all is_octal_digit (take l.byte-index l.text) ≡ true;
  number : l.value ≡ octal_number (take l.byte-index l.text);
  bound : l.value < 8 ^ l.byte-index;
}
