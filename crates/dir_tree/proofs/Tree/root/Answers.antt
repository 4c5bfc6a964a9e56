use Rattle.dir_tree.proofs.Prelude.{common_steps, arith, nat_tests}
use Rattle.dir_tree.proofs.NewestLemmas.{length_newest}
use Rattle.dir_tree.proofs.QuotaLemmas.{root_there}
use Rattle.dir_tree.proofs.Tree.root.Goals as goal

pub returns-clause-there : goal.returns-clause-there
returns-clause-there c = grind (arith, nat_tests, common_steps, length_newest, root_there)
