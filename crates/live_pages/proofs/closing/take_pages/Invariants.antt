use Rattle.live_pages.proofs.Prelude.{HavePages, IsTrue, false, length, slice_index_or, slots_filled, slots_items, slots_len, vec_capacity, ℕ, ◌<◌, ◌≡◌, ◌≤◌}
use Rattle.live_pages.proofs.closing.take_pages.Given as goal

abbrev pub invariant-loop-f : goal.invariant-loop-f
invariant-loop-f l = (length l.pages.items ≡ l.f) × HavePages (slots_items l.fn.closed.slots) l.pages.items
    × (l.fn.frames ≤ vec_capacity l.pages) × (slots_items l.closed.slots ≡ slots_items l.fn.closed.slots)
    × (slots_len l.closed.slots ≡ slots_len l.fn.closed.slots)
    × ((k : ℕ) → k < l.f → slice_index_or (slots_filled l.closed.slots) k false ≡ false)
    × ((k : ℕ) → l.f ≤ k → k < l.fn.frames → IsTrue (slice_index_or (slots_filled l.closed.slots) k false))
