use Rattle.dir_tree.proofs.Prelude.{◌≡◌, ℕ, ◌<◌, ◌≤◌, ◌-◌, length, Less, key_cmp, key_at}
use Rattle.dir_tree.proofs.index.first_at.Given as goal

abbrev pub invariant-loop-at : goal.invariant-loop-at
invariant-loop-at l = record {
  within : l.at ≤ length l.places;
  below : (k : ℕ) → k < l.at → key_cmp (key_at l.nodes l.places k) (l.superior, l.name) ≡ Less;
}

abbrev pub decreases-loop-at : goal.decreases-loop-at
decreases-loop-at l = length l.places - l.at
