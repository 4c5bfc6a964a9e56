use Rattle.clean_reasons.proofs.Prelude.{◌≡◌, ◌<◌, ℕ, false, custody_of, lead_passes}
use Rattle.clean_reasons.proofs.seeking.least_descriptor.Given as goal

-- no descriptor of the processes so far is looked for
abbrev pub invariant-loop-process : goal.invariant-loop-process
invariant-loop-process l = (k : ℕ) → k < l.process → (n : ℕ)
    → lead_passes l.seek ((custody_of l.custody).descriptor k n) ≡ false
