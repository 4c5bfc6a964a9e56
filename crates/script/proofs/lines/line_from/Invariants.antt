use Rattle.script.proofs.Prelude.{◌≡◌, false, take, NoFeedBefore, is_printable}
use Rattle.script.proofs.lines.line_from.Given as goal

-- no line feed came so far, and one byte was not printable
abbrev pub invariant-loop-i : goal.invariant-loop-i
invariant-loop-i l = record {
  no_feed : NoFeedBefore l.i l.bytes;
  unprintable : is_printable (take l.i l.bytes) ≡ false;
}
