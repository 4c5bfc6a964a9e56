use Rattle.core_map.proofs.Prelude.{PassesAll}
use Rattle.core_map.proofs.clock.pass.Given as goal

abbrev pub invariant-loop-i : goal.invariant-loop-i
invariant-loop-i l = PassesAll l.initial.frames.items l.frames.items l.from l.i
