use Rattle.live_doors.proofs.Calls.{keeper_fits, keeper_stays_of}
use Rattle.live_doors.proofs.Keeps.{length-set, looks_at, noted_still, refl, rows_noted, rules, watch_of}
use Rattle.live_doors.proofs.doors.LiveDoors.look.Goals as goal

pub load-requires : goal.load-requires
load-requires c = (
  search rules,
  search rules,
  looks_at c.self.inside.table.shared.key _ c.args.cpu c.keeper.invariant.seat
      (search rules) (search rules) (search rules),
)

pub invariant_of-keeper : goal.invariant_of-keeper
invariant_of-keeper c =
    let told = c.load.ensures.2 c.args.cpu (search rules) in
    keeper_fits told.1 (rows_noted _ c.args.cpu c.load.result c.keeper.inside.rows
    (watch_of c.keeper.inside.seat.me.0) c.keeper.invariant.rows) (noted_still (watch_of c.keeper.inside.seat.me.0)
    c.args.cpu c.load.result _ c.keeper.invariant.cleared told.0)

pub returns-clause-keeper : goal.returns-clause-keeper
returns-clause-keeper c = keeper_stays_of _ _ c.keeper.inside.seat.me c.keeper.view_is
    c.requires.keeper c.load.ensures.0 (c.load.ensures.2 c.args.cpu (search rules)).1 refl refl (length-set _ _ _)
