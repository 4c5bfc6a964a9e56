use Rattle.live_doors.proofs.Keeps.{raises_at, rules}
use Rattle.live_doors.proofs.doors.LiveDoors.raise.Goals as goal

pub store-requires : goal.store-requires
store-requires c = (
  search rules,
  search rules,
  raises_at c.self.inside.table.shared.key _ c.keeper.invariant.seat (search rules),
)
