use Rattle.std.proofs.lemmas.Grind.{common_steps}
use Rattle.flat_store.proofs.Prelude.{arith, nat_tests, rules, w32, to_z-of_z}
use Rattle.flat_store.proofs.StoreLaws.{tree_shown}
use Rattle.flat_store.proofs.store.FlatStore.move_reply.Goals as goal

pub returns : goal.returns
returns c = grind (arith, nat_tests, common_steps, to_z-of_z w32 c.args.amount.now (search rules), tree_shown)
