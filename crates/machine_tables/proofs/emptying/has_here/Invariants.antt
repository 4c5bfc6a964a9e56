use Rattle.machine_tables.proofs.Prelude.{◌≡◌, drop, frames_in}
use Rattle.machine_tables.proofs.emptying.has_here.Given as goal

abbrev pub invariant-loop-p : goal.invariant-loop-p
invariant-loop-p l = frames_in (drop l.p l.table) ≡ frames_in (drop l.low l.table)
