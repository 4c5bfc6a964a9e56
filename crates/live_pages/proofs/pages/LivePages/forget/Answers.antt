use Rattle.live_pages.proofs.Quiet.{forgets, rules}
use Rattle.live_pages.proofs.pages.LivePages.forget.Goals as goal

pub load-stamp-requires : goal.load-stamp-requires
load-stamp-requires c = (
  search rules,
  search rules,
  forgets c.self.inside.table.shared.key _ _ c.pass.invariant.seat c.pass.invariant.hand,
)
