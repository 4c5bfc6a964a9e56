use Rattle.clean_reasons.proofs.Prelude.{◌≡◌, ◌<◌, ℕ, false, custody_of, lead_passes}
use Rattle.clean_reasons.proofs.seeking.least_number.Given as goal

-- no descriptor so far is looked for
abbrev pub invariant-loop-number : goal.invariant-loop-number
invariant-loop-number l = (n : ℕ) → n < l.number
    → lead_passes l.seek ((custody_of l.custody).descriptor l.process n) ≡ false
