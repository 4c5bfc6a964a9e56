use Rattle.active_segs.proofs.Prelude.{sum, take, ◌+◌, ◌≡◌}
use Rattle.active_segs.proofs.pools.pool_of.Given as goal

abbrev pub invariant-loop-pool : goal.invariant-loop-pool
invariant-loop-pool l = l.fn.place ≡ sum (take l.pool l.sizes) + l.offset
