use Rattle.std.proofs.lemmas.Grind.{common_steps}
use Rattle.flat_store.proofs.Prelude.{arith, nat_tests}
use Rattle.flat_store.proofs.holdings.Holdings.is_volume_full.Goals as goal

pub returns : goal.returns
returns c = grind (arith, nat_tests, common_steps)
