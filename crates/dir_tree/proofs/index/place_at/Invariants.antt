use Rattle.dir_tree.proofs.Prelude.{◌≡◌, ℕ, ◌<◌, ◌≤◌, ◌-◌, length, slice_index}
use Rattle.dir_tree.proofs.index.place_at.Given as goal

abbrev pub invariant-loop-at : goal.invariant-loop-at
invariant-loop-at l = record {
  ahead : (k : ℕ) × (l.at ≤ k) × (k < length l.places) × (slice_index l.places k ≡ l.place);
}

abbrev pub decreases-loop-at : goal.decreases-loop-at
decreases-loop-at l = length l.places - l.at
