use Rattle.flat_store.proofs.Prelude.{◌≡◌, ℕ, ◌<◌, slice_index}
use Rattle.flat_store.proofs.releases.is_zero_below.Given as goal

abbrev pub invariant-loop-i : goal.invariant-loop-i
invariant-loop-i l = (k : ℕ) → k < l.i → slice_index l.page k ≡ 0
