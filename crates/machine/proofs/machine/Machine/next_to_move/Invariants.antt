use Rattle.machine.proofs.Prelude.{◌≡◌, ◌<◌, ℕ, false, would_move}
use Rattle.machine.proofs.machine.Machine.next_to_move.Given as goal

abbrev pub invariant-loop-c : goal.invariant-loop-c
invariant-loop-c g l = (d : ℕ) → d < l.c → would_move l.self.state d ≡ false
