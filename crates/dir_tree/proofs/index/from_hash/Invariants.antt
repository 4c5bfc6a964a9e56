use Rattle.dir_tree.proofs.Prelude.{ℕ, ◌<◌, ◌≤◌, ◌+◌, length, hash_at}
use Rattle.dir_tree.proofs.index.from_hash.Given as goal

abbrev pub invariant-loop-left : goal.invariant-loop-left
invariant-loop-left l = record {
  within : l.from + l.left ≤ length l.places;
  below : (k : ℕ) → k < l.from → hash_at l.places l.hashes k < l.hash;
  from : (k : ℕ) → l.from + l.left ≤ k → k < length l.places → l.hash ≤ hash_at l.places l.hashes k;
}

abbrev pub decreases-loop-left : goal.decreases-loop-left
decreases-loop-left l = l.left
