use Rattle.layer_tests.proofs.Prelude.{IsTableOf, bindings}
use Rattle.layer_tests.proofs.tests.rehoming.second_home.Given as goal

abbrev pub invariant-loop-p : goal.invariant-loop-p
invariant-loop-p g l = IsTableOf (bindings l.pages.core) l.uid l.t
