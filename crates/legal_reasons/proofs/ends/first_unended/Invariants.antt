use Rattle.legal_reasons.proofs.Prelude.{◌≡◌, ◌<◌, ℕ, true, Store, progress_of, Shows}
use Rattle.legal_reasons.proofs.ends.first_unended.Given as goal

-- each process so far has ended
abbrev pub invariant-loop-process : goal.invariant-loop-process
invariant-loop-process l = (s : Store) → Shows l.script l.store s → (k : ℕ) → k < l.process → (progress_of s k).ended
    ≡ true
