use Rattle.live_pages.proofs.Calls.{ClearSoFar, ◌≤◌}
use Rattle.live_pages.proofs.pages.LivePages.all_clear.Given as goal

abbrev pub invariant-loop-cpu : goal.invariant-loop-cpu
invariant-loop-cpu l = ClearSoFar l.fn.self l.fn.keeper l.keeper l.fn.stamp l.cpu × (l.cpu ≤ l.fn.self.cpus)
