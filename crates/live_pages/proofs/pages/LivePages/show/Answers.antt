use Rattle.live_pages.proofs.Ends.{rules, shows}
use Rattle.live_pages.proofs.pages.LivePages.show.Goals as goal

pub split_seat-seat-requires : goal.split_seat-seat-requires
split_seat-seat-requires c = (
  search rules,
  search rules,
  shows c.self.inside.table.shared.key _ c.keeper.invariant.seat,
)
