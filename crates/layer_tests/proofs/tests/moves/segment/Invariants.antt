use Rattle.layer_tests.proofs.Prelude.{IsHome}
use Rattle.layer_tests.proofs.tests.moves.segment.Given as goal

abbrev pub invariant-loop-p : goal.invariant-loop-p
invariant-loop-p g l = IsHome l.v l.home
