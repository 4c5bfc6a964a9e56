use Rattle.quota_cells.proofs.Prelude.{arith, common_steps, nat_tests}
use Rattle.quota_cells.proofs.TableLaws.{left_beside}
use Rattle.quota_cells.proofs.directories.Directories.leave.Goals as goal

pub returns : goal.returns
returns c = grind (arith, nat_tests, common_steps, left_beside)
