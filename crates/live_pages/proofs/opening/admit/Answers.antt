use Rattle.live_pages.proofs.Ends.{admits, rules}
use Rattle.live_pages.proofs.opening.admit.Goals as goal

pub split_seat-seat-requires : goal.split_seat-seat-requires
split_seat-seat-requires c = (
  search rules,
  search rules,
  admits c.pages.inside.table.shared.key _ c.keeper.invariant.seat (search rules) (search rules) (search rules),
)
