-- Each number so far is below the count, and there are as many as were counted.
use Rattle.std.proofs.Common.{◌≡◌, ◌<◌, ℕ, All, length}
use Rattle.workers.proofs.runs.numbers.Given as goal

abbrev pub invariant-loop-cpu : goal.invariant-loop-cpu
invariant-loop-cpu l = All (λ (c : ℕ). c < l.fn.count) l.numbers.items × (length l.numbers.items ≡ l.cpu)
