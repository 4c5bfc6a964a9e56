use Rattle.std.proofs.lemmas.Grind.{common_steps}
use Rattle.custody.proofs.Prelude.{arith, nat_tests, filter-from_retain}
use Rattle.custody.proofs.naming.drop_segs.Goals as goal

pub returns : goal.returns
returns c = grind (arith, nat_tests, common_steps, filter-from_retain)
