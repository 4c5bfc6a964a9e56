use Rattle.std.proofs.lemmas.Grind.{common_steps}
use Rattle.flat_store.proofs.Prelude.{arith, nat_tests, held_by, on_ok}
use Rattle.flat_store.proofs.store.FlatStore.take_effect.Goals as goal

pub returns-in-Some-clause-ok : goal.returns-in-Some-clause-ok
returns-in-Some-clause-ok c = grind (arith, nat_tests, common_steps, on_ok, held_by)
