use Rattle.core_map.proofs.Prelude.{HasNone, is_bound}
use Rattle.core_map.proofs.clock.first_bound.Given as goal

abbrev pub invariant-loop-i : goal.invariant-loop-i
invariant-loop-i l = HasNone is_bound l.frames l.from l.i
