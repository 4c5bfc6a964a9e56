use Rattle.live_pages.proofs.Calls.{HasNoted, Keeping, MayBind, Some, [], bound_now, get_or, holder_of, keeper_fits, keeper_gives, keeper_stays_of, keeper_takes, length-set, rebound, rebound_now, refl, rows_admitted, rules, set, subst, swapped, sym, told_with, ◌*◌, ◌+◌, ◌/◌, ◌∙◌, ◌≡◌}
use Rattle.live_pages.proofs.Ends.{ap, binds, may_bind_is_free}
use Rattle.live_pages.proofs.pages.LivePages.bind.Goals as goal

pub compare_exchange-requires : goal.compare_exchange-requires
compare_exchange-requires c = (
  search rules,
  search rules,
  keeper_takes c.self.inside.table.shared.key _ _ _ c.args.f c.keeper.inside.cleared c.keeper.invariant.seat
      c.keeper.invariant.hand c.keeper.invariant.cleared (subst (λ v. MayBind v.holder.watch v.cleared c.args.f)
      (sym c.keeper.view_is) c.requires.may_bind) (search rules) (search rules),
)

pub swap_page-old-requires-clause-hand : goal.swap_page-old-requires-clause-hand
swap_page-old-requires-clause-hand c =
    let got = (c.compare_exchange.ensures.2 c.args.f (search rules)).1 in
    (got.0, cc (told_with c.keeper.invariant.seat got.1))

pub store-requires : goal.store-requires
store-requires c =
    let got = (c.compare_exchange.ensures.2 c.args.f (search rules)).1 in
    let there = swapped (told_with c.keeper.invariant.seat got.1) c.swap_page-old.ensures.new.1 in
    let door = c.admit-door.ensures.word ∙ ap (λ l. 2 * (get_or l c.args.f 0 / 2 + 1)) c.keeper.invariant.rows.doors
    in (
      search rules,
      search rules,
      rw c.door_word.ensures (binds c.self.inside.table.shared.key _ _ c.args.f _ c.keeper.inside.cleared got.0.page
          there refl c.keeper.invariant.cleared
          (subst (λ v. MayBind v.holder.watch v.cleared c.args.f) (sym c.keeper.view_is) c.requires.may_bind) door),
    )

pub store-requires-2 : goal.store-requires-2
store-requires-2 c =
    let got = (c.compare_exchange.ensures.2 c.args.f (search rules)).1 in
    let there = swapped (told_with c.keeper.invariant.seat got.1) c.swap_page-old.ensures.new.1 in
    let bound = bound_now there (c.store.ensures.2 c.args.f _ [] (ap (λ x. x.1) there)) in (
      search rules,
      search rules,
      keeper_gives c.self.inside.table.shared.key _ _ (search rules) _ c.args.f bound refl (search rules),
    )

-- the frame is bound to the page, and the turn is given back
done : (c : goal.After-store-2) → c.store-2.new.seat.me
    ≡ (Keeping (rebound c.args.f c.args.page c.swap_page-old.result (holder_of c.keeper.inside.seat.me.0)), [])
done c =
    let new = c.swap_page-old.ensures.new in
    let got = (c.compare_exchange.ensures.2 c.args.f (search rules)).1 in
    let turn = told_with c.keeper.invariant.seat got.1 in
    let there = swapped turn new.1 in
    let bound = bound_now there (c.store.ensures.2 c.args.f new.0 [] (cc)) in
    rw (← new.2, c.swap_page-old.ensures.old got.0 (cc)) (rebound_now _ new.0.page got.0.page bound
    (c.store-2.ensures.2 (c.args.f, Some new.0) [] (cc)) c.keeper.invariant.hand)

pub invariant_of-keeper : goal.invariant_of-keeper
invariant_of-keeper c =
    let rows = c.admit-door.ensures.rows
    ∙ ap (λ n. record c.keeper.inside.rows { doors = set c.keeper.inside.rows.doors c.args.f n })
    c.admit-door.ensures.word in
    keeper_fits (done c) c.keeper.invariant.hand (rw rows (rows_admitted c.args.f c.keeper.invariant.rows))
    c.keeper.invariant.cleared

pub returns-clause-keeper : goal.returns-clause-keeper
returns-clause-keeper c = keeper_stays_of c.keeper.view_is c.requires.keeper (cc)
    (done c) (length-set _ _ _) refl refl refl

pub returns-clause-bound : goal.returns-clause-bound
returns-clause-bound c = rw (done c, ← c.keeper.view_is) refl

pub returns-clause-no_holder : goal.returns-clause-no_holder
returns-clause-no_holder c = may_bind_is_free c.args.keeper.now.holder c.args.keeper.now.cleared c.args.f
    (rw (← c.keeper.view_is) c.keeper.invariant.cleared) c.requires.may_bind
