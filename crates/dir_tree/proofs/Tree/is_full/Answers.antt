use Rattle.dir_tree.proofs.Prelude.{common_steps, arith, nat_tests}
use Rattle.dir_tree.proofs.NewestLemmas.{length_newest}
use Rattle.dir_tree.proofs.Tree.is_full.Goals as goal

pub returns : goal.returns
returns c = grind (arith, nat_tests, common_steps, length_newest)
