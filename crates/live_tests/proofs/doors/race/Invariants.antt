use Rattle.live_tests.proofs.Prelude.{IsPassOf}
use Rattle.live_tests.proofs.doors.race.Given as goal

abbrev pub invariant-loop-turn : goal.invariant-loop-turn
invariant-loop-turn l = IsPassOf l.doors l.pass
