use Rattle.flat_store.proofs.Prelude.{◌≡◌, ℕ, ◌<◌, true, is_some, uid_of}
use Rattle.flat_store.proofs.numbers.least_free.Given as goal

abbrev pub invariant-loop-number : goal.invariant-loop-number
invariant-loop-number l = (k : ℕ) → k < l.number → is_some (uid_of l.kst k) ≡ true
