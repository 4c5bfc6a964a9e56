use Rattle.bitmap.proofs.Prelude.{slice_index, ℕ, ◌<◌, ◌≡◌}
use Rattle.bitmap.proofs.first_off.Given as goal

abbrev pub invariant-loop-i : goal.invariant-loop-i
invariant-loop-i l = (v : ℕ) → v < l.i → slice_index l.words v ≡ 18446744073709551615
