use Rattle.layer_tests.proofs.Rehomed.{idle}
use Rattle.layer_tests.proofs.tests.rehoming.bring.Goals as goal

pub start_in-requires-clause-first : goal.start_in-requires-clause-first
start_in-requires-clause-first g c = idle c.args.pages.now.core 4 c.args.uid c.args.p c.requires.idle
