use Rattle.live_pages.proofs.Quiet.{acknowledges, ap, rules, ◌∙◌}
use Rattle.live_pages.proofs.pages.LivePages.acknowledge.Goals as goal

pub store-requires : goal.store-requires
store-requires c = (
  search rules,
  search rules,
  acknowledges c.self.inside.table.shared.key _ _ _ _ c.pass.invariant.seat c.pass.invariant.hand (search rules)
      (search rules) (cc),
)
