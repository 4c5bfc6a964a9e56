use Rattle.custody.proofs.Prelude.{◌≡◌, range}
use Rattle.custody.proofs.boot.in_order.Given as goal

abbrev pub invariant-loop-process : goal.invariant-loop-process
invariant-loop-process l = l.ready.items ≡ range 0 l.process
