use Rattle.live_pages.proofs.Calls.{holder_of, keeper_fits, keeper_stays_of, length-set, looks, noted_still, refl, rows_noted, rules, told_alone}
use Rattle.live_pages.proofs.pages.LivePages.look.Goals as goal

pub load-requires : goal.load-requires
load-requires c = (
  search rules,
  search rules,
  looks c.self.inside.table.shared.key _ _ _ c.args.cpu c.keeper.invariant.seat (search rules) (search rules)
      (search rules),
)

pub invariant_of-keeper : goal.invariant_of-keeper
invariant_of-keeper c =
    let told = c.load.ensures.2 c.args.cpu (search rules) in
    keeper_fits (told_alone c.keeper.invariant.seat told.1) c.keeper.invariant.hand (rows_noted _ c.args.cpu
    c.load.result c.keeper.inside.rows (holder_of c.keeper.inside.seat.me.0).watch c.keeper.invariant.rows) (noted_still
    (holder_of c.keeper.inside.seat.me.0).watch c.args.cpu c.load.result _ c.keeper.invariant.cleared told.0)

pub returns-clause-keeper : goal.returns-clause-keeper
returns-clause-keeper c = keeper_stays_of c.keeper.view_is c.requires.keeper c.load.ensures.0 (told_alone
    c.keeper.invariant.seat (c.load.ensures.2 c.args.cpu (search rules)).1) refl refl (length-set _ _ _) refl
