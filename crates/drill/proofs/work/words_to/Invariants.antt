use Rattle.drill.proofs.Prelude.{words_to, ◌*◌, ◌≡◌, ◌≤◌}
use Rattle.drill.proofs.work.words_to.Given as goal

abbrev pub invariant-loop-i : goal.invariant-loop-i
invariant-loop-i l = (l.sum ≡ words_to l.i) × (l.sum ≤ 7 * l.i)
