use Rattle.live_doors.proofs.Prelude.{length, slice_index, slots_items, ℕ, ◌+◌, ◌<◌, ◌≡◌}
use mathlib.Core.Option.{some}
use lib.ListN.{get_elem?}
use Rattle.live_doors.proofs.doors.read_doors.Given as goal

abbrev pub invariant-loop-f : goal.invariant-loop-f
invariant-loop-f l = (length l.doors ≡ length l.fn.doors)
    × ((g : ℕ) → g < l.f → get_elem? (slots_items l.closed.words) (g + 1) ≡ some (slice_index l.doors g))
