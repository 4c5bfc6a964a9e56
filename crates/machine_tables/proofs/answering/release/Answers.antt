use Rattle.machine_tables.proofs.ReadyLaws.{room_left}
use Rattle.machine_tables.proofs.answering.release.Goals as goal

pub enter-requires : goal.enter-requires
enter-requires c = record { room = room_left _ _ _ _ c.loop-process.invariant c.loop-process-test.true c.requires }
