use Rattle.live_doors.proofs.Prelude.{rules}
use Rattle.live_doors.proofs.Keeps.{closes_at}
use Rattle.live_doors.proofs.doors.LiveDoors.close_door.Goals as goal

pub store-requires : goal.store-requires
store-requires c = (
  search rules,
  search rules,
  rw c.door_word.ensures (closes_at c.self.inside.table.shared.key _ c.args.f c.keeper.invariant.seat (search rules)
      (search rules) (cc)),
)
