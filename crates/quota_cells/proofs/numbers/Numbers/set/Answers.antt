use Rattle.quota_cells.proofs.Prelude.{common_steps, arith, nat_tests}
use Rattle.quota_cells.proofs.TableLaws.{number_set}
use Rattle.quota_cells.proofs.numbers.Numbers.set.Goals as goal

pub returns : goal.returns
returns c = grind (arith, nat_tests, common_steps, number_set)
