use Rattle.seg_mover.proofs.Prelude.{IsPartGiven}
use Rattle.seg_mover.proofs.give_back.Given as goal

abbrev pub invariant-loop-p : goal.invariant-loop-p
invariant-loop-p g l = IsPartGiven l.fn.v l.v l.home l.p
