use Rattle.layer_tests.proofs.Rehomed.{names_none}
use Rattle.layer_tests.proofs.tests.rehoming.is_for.Goals as goal

pub loop-p-init : goal.loop-p-init
loop-p-init c = names_none c.args.vtoc.now c.args.entry c.args.t.now
