use Rattle.layer_tests.proofs.Rehomed.{NamesPages}
use Rattle.layer_tests.proofs.tests.rehoming.is_for.Given as goal

abbrev pub invariant-loop-p : goal.invariant-loop-p
invariant-loop-p l = NamesPages l.vtoc l.entry l.t l.p
