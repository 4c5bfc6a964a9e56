use Rattle.live_doors.proofs.Prelude.{Walk, ap, entries_filled, filled, filled_row, rules, walk_of, when_admitted, when_bound, when_closed, ◌∙◌}
use Rattle.live_doors.proofs.Calls.{pass_fits, pass_stays_of}
use Rattle.live_doors.proofs.Keeps.{fills_at}
use Rattle.live_doors.proofs.doors.LiveDoors.fill.Goals as goal

pub load-word-requires : goal.load-word-requires
load-word-requires c = (
  search rules,
  search rules,
  rw c.door_word.ensures (fills_at c.self.inside.table.shared.key _ c.args.f c.pass.invariant.seat (search rules)),
)

pub invariant_of-pass : goal.invariant_of-pass
invariant_of-pass c = pass_fits (c.load-word.ensures.2 c.args.f c.door_word.ensures).1
    (rw c.enter.ensures.entries (entries_filled c.args.f c.load-word.result c.pass.inside.entries
    (walk_of c.pass.inside.seat.me.0) c.pass.invariant.entries))

pub returns-clause-pass : goal.returns-clause-pass
returns-clause-pass c =
    let row = filled_row c.args.f c.load-word.result (walk_of c.pass.inside.seat.me.0) in
    pass_stays_of c.pass.inside.seat.me c.pass.view_is c.requires.pass c.load-word.ensures.0
    (c.load-word.ensures.2 c.args.f c.door_word.ensures).1 row.0 row.1

pub returns-clause-bound : goal.returns-clause-bound
returns-clause-bound c = when_bound c.enter.result c.load-word.result
    (c.load-word.ensures.2 c.args.f c.door_word.ensures).0 c.enter.ensures.bound

pub returns-clause-admitted : goal.returns-clause-admitted
returns-clause-admitted c = when_admitted c.enter.result c.args.f c.load-word.result (λ (h : Walk → Walk).
    h c.args.pass.now.walk) _ (ap (λ x. walk_of x.0) (c.load-word.ensures.2 c.args.f c.door_word.ensures).1
    ∙ ap (λ v. filled c.args.f c.load-word.result v.walk) c.pass.view_is) c.enter.ensures.bound

pub returns-clause-closed : goal.returns-clause-closed
returns-clause-closed c = when_closed c.enter.result c.args.f c.load-word.result (λ (h : Walk → Walk).
    h c.args.pass.now.walk) _ (ap (λ x. walk_of x.0) (c.load-word.ensures.2 c.args.f c.door_word.ensures).1
    ∙ ap (λ v. filled c.args.f c.load-word.result v.walk) c.pass.view_is) c.enter.ensures.closed
