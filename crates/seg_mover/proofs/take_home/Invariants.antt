use Rattle.seg_mover.proofs.Prelude.{IsPartBegun}
use Rattle.seg_mover.proofs.take_home.Given as goal

abbrev pub invariant-loop-p : goal.invariant-loop-p
invariant-loop-p g l = IsPartBegun l.fn.v l.v l.uid l.from l.home l.p
