use Rattle.machine_tables.proofs.Prelude.{◌≡◌}
use Rattle.machine_tables.proofs.ReadyLaws.{released}
use Rattle.machine_tables.proofs.answering.release.Given as goal

abbrev pub invariant-loop-process : goal.invariant-loop-process
invariant-loop-process l = l.ready ≡ released l.fn.ready l.process
