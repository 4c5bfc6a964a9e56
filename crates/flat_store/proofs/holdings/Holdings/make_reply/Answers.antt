use Rattle.std.proofs.lemmas.Grind.{common_steps}
use Rattle.flat_store.proofs.Prelude.{arith, nat_tests}
use Rattle.flat_store.proofs.DropLaws.{tree_inside}
use Rattle.flat_store.proofs.holdings.Holdings.make_reply.Goals as goal

pub returns : goal.returns
returns c = grind (arith, nat_tests, common_steps, tree_inside)
