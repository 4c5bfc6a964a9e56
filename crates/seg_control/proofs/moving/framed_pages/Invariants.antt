use Rattle.seg_control.proofs.Choosing.{IsFramedTo}
use Rattle.seg_control.proofs.moving.framed_pages.Given as goal

abbrev pub invariant-loop-p : goal.invariant-loop-p
invariant-loop-p l = IsFramedTo l.table l.framed l.p
