use Rattle.live_pages.proofs.Prelude.{HaveZeroPages, length, ◌≡◌}
use Rattle.live_pages.proofs.opening.first_slots.Given as goal

abbrev pub invariant-loop : goal.invariant-loop
invariant-loop l = (length l.slots.items ≡ l.counter) × HaveZeroPages l.slots.items
