use Rattle.script.proofs.Prelude.{NoSpaceBefore}
use Rattle.script.proofs.fields.split_field.Given as goal

-- no space came so far
abbrev pub invariant-loop-i : goal.invariant-loop-i
invariant-loop-i l = NoSpaceBefore l.i l.line
