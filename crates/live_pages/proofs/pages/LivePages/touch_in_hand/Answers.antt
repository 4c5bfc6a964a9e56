use Rattle.live_pages.proofs.Calls.{drawn, exchanged_twice, found_in_slot, slot_in_hand, sym}
use Rattle.live_pages.proofs.Changing.{AreBelow, Passing, Some, [], ap, draws, gives_turn, having_made, refl, rules, same_Some, walker_of, ◌∙◌, ◌∷◌, ◌≡◌}
use Rattle.live_pages.proofs.pages.LivePages.touch_in_hand.Goals as goal

pub exchange-requires : goal.exchange-requires
exchange-requires c = (search rules, slot_in_hand c.requires.hand.1)

pub fetch_add-ticket-requires : goal.fetch_add-ticket-requires
fetch_add-ticket-requires c =
    let new = c.touch-word.new.self in
    let there = exchanged_twice c.requires.hand.1 c.exchange.ensures.3 c.exchange-2.ensures.3 in
    let same = same_Some _ _ (sym c.in-Some.is ∙ found_in_slot c.requires.hand.1 c.exchange.ensures.2) in (
      search rules,
      search rules,
      draws c.self.inside.table.shared.key _ _ _ c.args.f c.requires.hand.0.page there (search rules) c.requires.hand.2
          (rw (c.touch-word.ensures.kept.0, ← same) c.touch-word.ensures.page) (c.touch-word.ensures.kept.1
          ∙ (rw (c.touch-word.ensures.kept.0, ← same) c.touch-word.ensures.word)) c.requires.few (search rules),
    )

-- what is known of the seat with the touched page in hand, once its ticket was drawn
drew : (c : goal.After-store) → AreBelow c.fetch_add-ticket.result (walker_of c.args.seat.now.me.0).made
    × (c.fetch_add-ticket.new.seat.me ≡ (
      Passing (having_made c.fetch_add-ticket.result c.args.f c.touch-word.new.self.touch c.touch-word.new.self.word
          c.touch-word.new.self.page (walker_of c.args.seat.now.me.0)),
      (c.args.f, Some c.touch-word.new.self) ∷ [],
    ))
drew c =
    let there = exchanged_twice c.requires.hand.1 c.exchange.ensures.3 c.exchange-2.ensures.3 in
    let told = c.fetch_add-ticket.ensures.2 c.args.f c.touch-word.new.self [] (cc) in
    (rw there at told.0, drawn there told.1)

pub store-requires : goal.store-requires
store-requires c =
    let there = exchanged_twice c.requires.hand.1 c.exchange.ensures.3 c.exchange-2.ensures.3 in
    let drew = c.fetch_add-ticket.ensures.2 c.args.f c.touch-word.new.self [] (cc) in (
      search rules,
      search rules,
      gives_turn c.self.inside.table.shared.key _ _ (search rules) _ c.args.f (drawn there drew.1) refl (search rules),
    )

pub returns-clause-touched : goal.returns-clause-touched
returns-clause-touched c = rw (← c.touch-word.ensures.kept.0, ← c.touch-word.ensures.kept.1)
    (c.store.ensures.2 (c.args.f, Some c.touch-word.new.self) [] (ap (λ x. x.1) (drew c).1) ∙ (rw (drew c).1 refl))

pub returns-clause-above : goal.returns-clause-above
returns-clause-above c = (drew c).0
