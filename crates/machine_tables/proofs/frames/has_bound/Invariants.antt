use Rattle.machine_tables.proofs.Prelude.{◌≡◌, false, take, list_any, is_bound}
use Rattle.machine_tables.proofs.frames.has_bound.Given as goal

abbrev pub invariant-loop-frame : goal.invariant-loop-frame
invariant-loop-frame l = list_any is_bound (take l.frame l.core.frames) ≡ false
