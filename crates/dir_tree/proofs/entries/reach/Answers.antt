use Rattle.dir_tree.proofs.Prelude.{common_steps, arith, nat_tests}
use Rattle.dir_tree.proofs.UidLemmas.{nowhere_next}
use Rattle.dir_tree.proofs.entries.reach.Goals as goal

pub loop-preserved : goal.loop-preserved
loop-preserved c = grind (arith, nat_tests, common_steps, nowhere_next)
