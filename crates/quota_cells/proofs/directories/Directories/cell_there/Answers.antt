use Rattle.quota_cells.proofs.Prelude.{arith, common_steps, nat_tests}
use Rattle.quota_cells.proofs.TableLaws.{look_beside}
use Rattle.quota_cells.proofs.directories.Directories.cell_there.Goals as goal

pub returns-clause-cell : goal.returns-clause-cell
returns-clause-cell c = grind (arith, nat_tests, common_steps, look_beside)
