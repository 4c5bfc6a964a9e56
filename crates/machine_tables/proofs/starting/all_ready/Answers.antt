use Rattle.machine_tables.proofs.ReadyLaws.{one_ready, ready_room}
use Rattle.machine_tables.proofs.starting.all_ready.Goals as goal

pub enter-requires : goal.enter-requires
enter-requires c = record { room = ready_room _ _ _ c.loop-process.invariant c.loop-process-test.true }

pub loop-process-preserved : goal.loop-process-preserved
loop-process-preserved c = one_ready _ _ _ _ c.loop-process.invariant c.enter.ensures.last
