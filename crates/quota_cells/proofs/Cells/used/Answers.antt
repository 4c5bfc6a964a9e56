use Rattle.quota_cells.proofs.Prelude.{arith, common_steps, nat_tests}
use Rattle.quota_cells.proofs.ScratchLaws.{used_same}
use Rattle.quota_cells.proofs.Cells.used.Goals as goal

pub returns-clause-scratch : goal.returns-clause-scratch
returns-clause-scratch c nodes stored chains fits holds = grind (arith, nat_tests, common_steps, used_same)
