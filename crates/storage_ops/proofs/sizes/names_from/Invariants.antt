use Rattle.storage_ops.proofs.Prelude.{◌≡◌, ◌≤◌, ◌<◌, ℕ, is_some, false, record_at}
use Rattle.storage_ops.proofs.sizes.names_from.Given as goal

abbrev pub invariant-loop-page : goal.invariant-loop-page
invariant-loop-page l = (q : ℕ) → l.fn.from ≤ q → q < l.page → is_some (record_at l.fn.vtoc l.fn.entry q) ≡ false
