use Rattle.active_segs.proofs.DescentLemmas.{IsOnTheWay}
use Rattle.active_segs.proofs.victim.leaf_below.Given as goal

abbrev pub invariant-loop-step : goal.invariant-loop-step
invariant-loop-step l = IsOnTheWay l.entries l.fn.found l.place l._step
