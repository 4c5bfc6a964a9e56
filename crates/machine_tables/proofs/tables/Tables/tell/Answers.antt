use Rattle.machine_tables.proofs.Prelude.{rules}
use Rattle.machine_tables.proofs.ReadyLaws.{room_for}
use Rattle.machine_tables.proofs.tables.Tables.tell.Goals as goal

pub release-requires : goal.release-requires
release-requires g c = room_for _ _ _ _ c.answer.ensures.released (search rules)
