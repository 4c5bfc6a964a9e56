use Rattle.live_doors.proofs.Prelude.{All, IsPassOf, vec_len, ◌≡◌}
use Rattle.live_doors.proofs.doors.LiveDoors.take_all_in.Given as goal

abbrev pub decreases-loop-pass : goal.decreases-loop-pass
decreases-loop-pass l = vec_len l.passes

abbrev pub invariant-loop-pass : goal.invariant-loop-pass
invariant-loop-pass l = (l.keeper ≡ l.fn.keeper) × All (IsPassOf l.self) l.passes.items
