use Rattle.live_tests.proofs.Prelude.{IsPassOf}
use Rattle.live_tests.proofs.doors.all_are_unbound.Given as goal

abbrev pub invariant-loop-f : goal.invariant-loop-f
invariant-loop-f l = IsPassOf l.doors l.pass
