-- No call of a fresh drive has failed. (own)
use Rattle.runner.proofs.Prelude.{◌≡◌, ℕ, List, refl, faults_of, fresh_drive, named_calls, FailLine}

pub no_faults : (records : ℕ) (lines : List FailLine) → faults_of (fresh_drive records lines) ≡ 0
unfolding named_calls
no_faults records lines = refl
