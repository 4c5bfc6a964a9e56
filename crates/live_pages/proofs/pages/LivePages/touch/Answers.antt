use Rattle.live_pages.proofs.Calls.{Held, None, Passing, Some, [], get_or, having_touched, pass_fits, pass_stays_of, refl, rules, seat_form, taken, takes_turn, told_alone, told_with, walker_of, ◌∙◌, ◌∷◌, ◌≡◌}
use Rattle.live_pages.proofs.Ends.{ap, held_is_current}
use Rattle.live_pages.proofs.pages.LivePages.touch.Goals as goal

-- the turn was free: the pass has it, with the page that lay in the slot
has_turn : (c : goal.After-touch_in_hand-arg-1) → c.compare_exchange-word.result ≡ 0
    → (h : Held) × (c.compare_exchange-word.new.seat.me
    ≡ (Passing (taken c.args.f h.page (walker_of c.pass.inside.seat.me.0)), (c.args.f, Some h) ∷ []))
has_turn c free =
    let got = (c.compare_exchange-word.ensures.2 c.args.f (search rules)).0 free in
    (got.0, told_with c.pass.invariant.seat got.1)

-- and after the touch it has none
made : (c : goal.After-pass-1) → c.compare_exchange-word.result ≡ 0 → c.touch_in_hand-done.new.seat.me ≡ (
  Passing (having_touched c.touch_in_hand-done.result.ticket c.args.f c.args.t c.touch_in_hand-done.result.word
      (walker_of c.pass.inside.seat.me.0)),
  [],
)
made c free =
    let got = (c.compare_exchange-word.ensures.2 c.args.f (search rules)).0 free in
    c.touch_in_hand-done.ensures.touched ∙ (rw (told_with c.pass.invariant.seat got.1) refl)

pub compare_exchange-word-requires : goal.compare_exchange-word-requires
compare_exchange-word-requires c = (
  search rules,
  search rules,
  takes_turn c.self.inside.table.shared.key _ _ _ c.args.f c.requires.holds.0 c.pass.invariant.seat
      c.pass.invariant.hand (search rules) (cc) (search rules),
)

pub invariant_of-pass : goal.invariant_of-pass
invariant_of-pass c = pass_fits (told_alone c.pass.invariant.seat ((c.compare_exchange-word.ensures.2 c.args.f
    (search rules)).1 c.if-word-ne0.true)) c.pass.invariant.hand c.pass.invariant.entries c.pass.invariant.touches

pub returns-then-word-ne0-clause-pass : goal.returns-then-word-ne0-clause-pass
returns-then-word-ne0-clause-pass c = pass_stays_of c.pass.view_is c.requires.pass c.compare_exchange-word.ensures.0
    (told_alone c.pass.invariant.seat
    ((c.compare_exchange-word.ensures.2 c.args.f (search rules)).1 c.if-word-ne0.true)) refl refl refl

pub returns-then-word-ne0-clause-busy : goal.returns-then-word-ne0-clause-busy
returns-then-word-ne0-clause-busy c = (
  c.if-word-ne0.true,
  rw (
    (c.compare_exchange-word.ensures.2 c.args.f (search rules)).1 c.if-word-ne0.true,
    ← c.turn_word-turn.ensures,
    ← c.pass.view_is,
  ) refl,
)

pub touch_in_hand-done-requires-clause-hand : goal.touch_in_hand-done-requires-clause-hand
touch_in_hand-done-requires-clause-hand c =
    let there = has_turn c (search rules) in (there.0, seat_form there.1, ap (λ x. (walker_of x.0).hand) there.1)

pub touch_in_hand-done-requires-clause-few : goal.touch_in_hand-done-requires-clause-few
touch_in_hand-done-requires-clause-few c = rw (has_turn c (search rules)).1 (rw (← c.pass.view_is) at c.requires.few)

pub invariant_of-pass-2 : goal.invariant_of-pass-2
invariant_of-pass-2 c = pass_fits (made c (search rules)) refl c.pass.invariant.entries (search rules)

pub returns-clause-pass : goal.returns-clause-pass
returns-clause-pass c = pass_stays_of c.pass.view_is c.requires.pass (cc) (made c (search rules)) refl refl refl

pub returns-clause-touched : goal.returns-clause-touched
returns-clause-touched c = rw (made c (search rules), ← c.pass.view_is) refl

pub returns-clause-above : goal.returns-clause-above
returns-clause-above c =
    let got = (c.compare_exchange-word.ensures.2 c.args.f (search rules)).0 (search rules) in
    rw (← c.pass.view_is) (rw (told_with c.pass.invariant.seat got.1) at c.touch_in_hand-done.ensures.above)

pub returns-clause-current : goal.returns-clause-current
returns-clause-current c = held_is_current c.args.pass.now.walker.walk c.args.f c.requires.holds
