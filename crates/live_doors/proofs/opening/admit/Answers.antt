use Rattle.live_doors.proofs.Keeps.{admits_at, rules}
use Rattle.live_doors.proofs.opening.admit.Goals as goal

pub split_seat-seat-requires : goal.split_seat-seat-requires
split_seat-seat-requires c = (
  search rules,
  search rules,
  admits_at c.doors.inside.table.shared.key _ c.keeper.invariant.seat (search rules) (search rules),
)
