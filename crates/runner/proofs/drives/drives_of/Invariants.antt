use Rattle.runner.proofs.Prelude.{◌≡◌, ℕ, length, Some, slice_get, AnyDrive, IsFresh}
use Rattle.runner.proofs.drives.drives_of.Given as goal

-- the drives of the volumes gone over
abbrev pub invariant-loop-v : goal.invariant-loop-v
invariant-loop-v l = (length l.drives.items ≡ l.v) × ((v : ℕ) (d : AnyDrive) → slice_get l.drives.items v ≡ Some d
    → IsFresh l.script v d)
