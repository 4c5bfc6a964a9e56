use Rattle.script.proofs.Prelude.{IsPrintableTo}
use Rattle.script.proofs.lines.printable_to.Given as goal

-- all bytes before it are printable
abbrev pub invariant-loop-i : goal.invariant-loop-i
invariant-loop-i l = IsPrintableTo l.bytes l.i
