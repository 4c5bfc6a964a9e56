use Rattle.quota_cells.proofs.Prelude.{common_steps, arith, nat_tests}
use Rattle.quota_cells.proofs.TableLaws.{entered_in_order}
use Rattle.quota_cells.proofs.directories.Directories.enter.Goals as goal

pub returns : goal.returns
returns c = grind (arith, nat_tests, common_steps, entered_in_order)
