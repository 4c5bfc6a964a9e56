use Rattle.std.proofs.lemmas.Grind.{common_steps}
use Rattle.flat_store.proofs.Prelude.{arith, nat_tests, after_initiate}
use Rattle.flat_store.proofs.StoreLaws.{numbers_shown}
use Rattle.flat_store.proofs.store.FlatStore.initiate.Goals as goal

pub returns-in-Ok : goal.returns-in-Ok
unfolding after_initiate
returns-in-Ok c = grind (arith, nat_tests, common_steps, numbers_shown)

pub returns-in_default : goal.returns-in_default
unfolding after_initiate
returns-in_default c = grind (arith, nat_tests, common_steps)
