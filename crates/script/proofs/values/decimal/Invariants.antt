use Rattle.script.proofs.Prelude.{◌≡◌, ◌<◌, ◌^◌, drop, decimal_value_from}
use Rattle.script.proofs.values.decimal.Given as goal

-- the digits so far, and those that are left, give the number
abbrev pub invariant-loop-byte : goal.invariant-loop-byte
invariant-loop-byte l = record {
  number : decimal_value_from l.value (drop l.byte-index l.text) ≡ decimal_value_from 0 l.text;
  small : l.value < 10 ^ l.byte-index;
}
