use Rattle.live_tests.proofs.Prelude.{IsKeeperOf, OnlyNoted}
use Rattle.live_tests.proofs.doors.ask.Given as goal

abbrev pub invariant-loop : goal.invariant-loop
invariant-loop l = IsKeeperOf l.doors l.keeper × OnlyNoted l.fn.keeper.watch l.keeper.watch
