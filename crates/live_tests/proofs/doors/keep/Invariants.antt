use Rattle.live_tests.proofs.Prelude.{IsAdmitted, IsKeeperOf, ℕ, ◌<◌, ◌≡◌, ◌≤◌}
use Rattle.live_tests.proofs.doors.keep.Given as goal

abbrev pub invariant-loop-f : goal.invariant-loop-f
invariant-loop-f l = IsKeeperOf l.doors l.keeper × (l.keeper.watch.request ≡ l.f)
    × ((g : ℕ) → l.f ≤ g → g < 1000 → IsAdmitted l.keeper.watch g)
