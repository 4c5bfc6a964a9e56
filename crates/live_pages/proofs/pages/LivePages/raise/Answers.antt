use Rattle.live_pages.proofs.Quiet.{raises, rules}
use Rattle.live_pages.proofs.pages.LivePages.raise.Goals as goal

pub store-requires : goal.store-requires
store-requires c = (
  search rules,
  search rules,
  raises c.self.inside.table.shared.key _ _ _ c.keeper.invariant.seat (search rules),
)
