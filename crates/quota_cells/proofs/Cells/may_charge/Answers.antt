use Rattle.quota_cells.proofs.Prelude.{arith, common_steps, nat_tests}
use Rattle.quota_cells.proofs.ScratchLaws.{charge_same}
use Rattle.quota_cells.proofs.Cells.may_charge.Goals as goal

pub returns : goal.returns
returns c stored holds = grind (arith, nat_tests, common_steps, charge_same)
