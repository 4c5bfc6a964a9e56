use Rattle.script.proofs.Prelude.{◌≡◌, drop, fields_of}
use Rattle.script.proofs.fields.skip_spaces.Given as goal

-- only spaces came so far
abbrev pub invariant-loop-i : goal.invariant-loop-i
invariant-loop-i l = fields_of (drop l.i l.line) ≡ fields_of l.line
