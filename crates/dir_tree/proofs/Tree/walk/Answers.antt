use Rattle.dir_tree.proofs.Prelude.{arith, common_steps, nat_tests}
use Rattle.dir_tree.proofs.QuotaLemmas.{walk_any, walk_next, walk_ends}
use Rattle.dir_tree.proofs.Tree.walk.Goals as goal

pub returns-then-not-dir-clause-answer : goal.returns-then-not-dir-clause-answer
returns-then-not-dir-clause-answer c quota = grind (arith, nat_tests, common_steps, walk_next, walk_any)

pub returns-in_None-node-clause-answer : goal.returns-in_None-node-clause-answer
returns-in_None-node-clause-answer c quota = grind (arith, nat_tests, common_steps, walk_next, walk_any)

pub returns-clause-answer : goal.returns-clause-answer
returns-clause-answer c quota = grind (arith, nat_tests, common_steps, walk_any, walk_ends)
