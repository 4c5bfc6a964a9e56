use Rattle.live_pages.proofs.Prelude.{Held, ap, none-some, rules, same_Some, sym, ◌∙◌}
use Rattle.live_pages.proofs.Calls.{exchanged_twice, found_in_slot, slot_in_hand, with_slots}
use Rattle.live_pages.proofs.pages.LivePages.swap_page.Goals as goal

pub exchange-requires : goal.exchange-requires
exchange-requires c = (search rules, slot_in_hand (with_slots c.args.seat.now.me c.requires.hand.1))

pub unreachable-requires : goal.unreachable-requires
unreachable-requires c = none-some _ (sym c.in_default.is
    ∙ found_in_slot (with_slots c.args.seat.now.me c.requires.hand.1) c.exchange.ensures.2)

pub returns-clause-old : goal.returns-clause-old
returns-clause-old c = λ h is. c.swap-old.ensures.old ∙ ap (λ (x : Held). x.page) (same_Some _ _ (sym c.in-Some.is
    ∙ found_in_slot (with_slots c.args.seat.now.me is) c.exchange.ensures.2))

pub returns-clause-new : goal.returns-clause-new
returns-clause-new c = (
  c.swap-old.new.self,
  exchanged_twice (with_slots c.args.seat.now.me c.requires.hand.1) c.exchange.ensures.3 c.exchange-2.ensures.3,
  c.swap-old.ensures.new,
)
