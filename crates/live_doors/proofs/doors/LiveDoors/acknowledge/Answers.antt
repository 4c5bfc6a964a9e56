use Rattle.live_doors.proofs.Prelude.{rules}
use Rattle.live_doors.proofs.Keeps.{acknowledges_at}
use Rattle.live_doors.proofs.doors.LiveDoors.acknowledge.Goals as goal

pub store-requires : goal.store-requires
store-requires c = (
  search rules,
  search rules,
  acknowledges_at c.self.inside.table.shared.key _ c.pass.invariant.seat (search rules) (cc),
)
