use Rattle.layer_tests.proofs.Prelude.{IsHome}
use Rattle.layer_tests.proofs.tests.moves.has_words.Given as goal

abbrev pub invariant-loop-p : goal.invariant-loop-p
invariant-loop-p l = IsHome l.v l.home
