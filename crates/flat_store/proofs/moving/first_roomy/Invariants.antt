use Rattle.flat_store.proofs.Prelude.{◌≡◌, ◌<◌, ℕ, false, is_roomy}
use Rattle.flat_store.proofs.moving.first_roomy.Given as goal

-- no volume before has been found roomy
abbrev pub invariant-loop-volume : goal.invariant-loop-volume
invariant-loop-volume l = (v : ℕ) → v < l.volume → is_roomy l.records l.entries l.own l.pages v ≡ false
