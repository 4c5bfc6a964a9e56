use Rattle.dir_tree.proofs.Prelude.{common_steps, arith, key_cmp, nat_tests}
use Rattle.dir_tree.proofs.index.compare.Goals as goal

pub returns-then-own-hash : goal.returns-then-own-hash
unfolding key_cmp
returns-then-own-hash c = grind (arith, nat_tests, common_steps)

pub returns-then-own-hash-2 : goal.returns-then-own-hash-2
unfolding key_cmp
returns-then-own-hash-2 c = grind (arith, nat_tests, common_steps)

pub returns-else-own-hash-2 : goal.returns-else-own-hash-2
unfolding key_cmp
returns-else-own-hash-2 c = grind (arith, nat_tests, common_steps)
