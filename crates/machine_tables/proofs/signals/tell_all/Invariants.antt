use Rattle.machine_tables.proofs.Prelude.{◌≡◌}
use Rattle.machine_tables.proofs.SignalLaws.{told_first}
use Rattle.machine_tables.proofs.signals.tell_all.Given as goal

abbrev pub invariant-loop-at : goal.invariant-loop-at
invariant-loop-at l = l.processors ≡ told_first l.signaller l.what 0 l.at l.fn.processors
