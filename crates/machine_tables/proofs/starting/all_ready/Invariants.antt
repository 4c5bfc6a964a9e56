use Rattle.machine_tables.proofs.Prelude.{◌≡◌}
use Rattle.machine_tables.proofs.ReadyLaws.{first_of}
use Rattle.machine_tables.proofs.starting.all_ready.Given as goal

abbrev pub invariant-loop-process : goal.invariant-loop-process
invariant-loop-process l = l.ready ≡ first_of l.process l.count
