use Rattle.storage_ops.proofs.Prelude.{◌≡◌, ◌<◌, ℕ, false, is_roomy}
use Rattle.storage_ops.proofs.moving.first_roomy.Given as goal

abbrev pub invariant-loop-volume : goal.invariant-loop-volume
invariant-loop-volume g l = (v : ℕ) → v < l.volume → is_roomy l.fn.volumes l.fn.own l.fn.pages v ≡ false
