use Rattle.std.proofs.lemmas.Grind.{common_steps}
use Rattle.flat_store.proofs.Prelude.{arith, nat_tests, after_terminate}
use Rattle.flat_store.proofs.StoreLaws.{numbers_shown, terminate_asked}
use Rattle.flat_store.proofs.store.FlatStore.terminate.Goals as goal

pub returns : goal.returns
unfolding after_terminate
returns c = grind (arith, nat_tests, common_steps, terminate_asked, numbers_shown)
