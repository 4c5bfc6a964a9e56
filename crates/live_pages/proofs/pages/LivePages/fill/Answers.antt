use Rattle.live_pages.proofs.Prelude.{Passing, Walk, [], ap, entries_filled, filled, filled_row, refl, rules, walker_of, walking, when_admitted, when_bound, when_closed, ◌∙◌, ◌≡◌}
use Rattle.live_pages.proofs.Calls.{fills, pass_fits, pass_stays_of, told_alone}
use Rattle.live_pages.proofs.pages.LivePages.fill.Goals as goal

pub load-word-requires : goal.load-word-requires
load-word-requires c = (
  search rules,
  search rules,
  rw c.door_word.ensures (fills c.self.inside.table.shared.key _ _ c.args.f c.pass.invariant.seat
      c.pass.invariant.hand (search rules)),
)

-- what the seat knows once the door's word was read
read : (c : goal.After-enter) → c.load-word.new.seat.me
    ≡ (Passing (walking (filled c.args.f c.load-word.result) (walker_of c.pass.inside.seat.me.0)), [])
read c = told_alone c.pass.invariant.seat (c.load-word.ensures.2 c.args.f c.door_word.ensures).1

-- as it is seen
seen : (c : goal.After-enter) → walker_of c.load-word.new.seat.me.0
    ≡ walking (filled c.args.f c.load-word.result) c.args.pass.now.walker
seen c = ap (λ x. walker_of x.0) (read c) ∙ ap (λ v. walking (filled c.args.f c.load-word.result) v.walker)
    c.pass.view_is

pub invariant_of-pass : goal.invariant_of-pass
invariant_of-pass c = pass_fits (read c) c.pass.invariant.hand (rw c.enter.ensures.entries
    (entries_filled c.args.f c.load-word.result c.pass.inside.entries (walker_of c.pass.inside.seat.me.0).walk
    c.pass.invariant.entries)) c.pass.invariant.touches

pub returns-clause-pass : goal.returns-clause-pass
returns-clause-pass c =
    let row = filled_row c.args.f c.load-word.result (walker_of c.pass.inside.seat.me.0).walk in
    pass_stays_of c.pass.view_is c.requires.pass c.load-word.ensures.0 (read c) row.0 row.1 refl

pub returns-clause-bound : goal.returns-clause-bound
returns-clause-bound c = when_bound c.enter.result c.load-word.result
    (c.load-word.ensures.2 c.args.f c.door_word.ensures).0 c.enter.ensures.bound

pub returns-clause-admitted : goal.returns-clause-admitted
returns-clause-admitted c = when_admitted c.enter.result c.args.f c.load-word.result
    (λ (h : Walk → Walk). walking h c.args.pass.now.walker) _ (seen c) c.enter.ensures.bound

pub returns-clause-closed : goal.returns-clause-closed
returns-clause-closed c = when_closed c.enter.result c.args.f c.load-word.result
    (λ (h : Walk → Walk). walking h c.args.pass.now.walker) _ (seen c) c.enter.ensures.closed
