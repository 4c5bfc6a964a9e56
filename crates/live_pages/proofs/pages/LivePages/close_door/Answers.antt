use Rattle.live_pages.proofs.Quiet.{ap, closes, get_or, rules, ◌+◌, ◌∙◌}
use Rattle.live_pages.proofs.pages.LivePages.close_door.Goals as goal

pub store-requires : goal.store-requires
store-requires c = (
  search rules,
  search rules,
  rw c.door_word.ensures (closes c.self.inside.table.shared.key _ _ c.args.f _ c.keeper.invariant.seat (search rules)
      (search rules) (search rules) (cc)),
)
