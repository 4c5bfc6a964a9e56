use Rattle.layer_tests.proofs.Prelude.{IsMoving}
use Rattle.layer_tests.proofs.tests.moves.copy_pages.Given as goal

abbrev pub invariant-loop-copies : goal.invariant-loop-copies
invariant-loop-copies l = IsMoving l.v l.m
