use Rattle.quota_cells.proofs.Prelude.{common_steps, arith, nat_tests}
use Rattle.quota_cells.proofs.TableLaws.{set_in_order}
use Rattle.quota_cells.proofs.directories.Directories.set_load.Goals as goal

pub returns : goal.returns
returns c = grind (arith, nat_tests, common_steps, set_in_order)
