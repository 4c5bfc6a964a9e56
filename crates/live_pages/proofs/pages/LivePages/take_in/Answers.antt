use Rattle.live_pages.proofs.Ends.{ap, rules, takes_in}
use Rattle.live_pages.proofs.pages.LivePages.take_in.Goals as goal

pub join_seat-requires : goal.join_seat-requires
join_seat-requires c = (
  search rules,
  search rules,
  cc,
  search rules,
  takes_in c.self.inside.table.shared.key _ _ c.keeper.invariant.seat c.pass.invariant.seat c.pass.invariant.hand,
)
