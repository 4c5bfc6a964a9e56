use Rattle.quota_cells.proofs.Prelude.{common_steps, arith, nat_tests}
use Rattle.quota_cells.proofs.TableLaws.{number_left, there_now, there_within}
use Rattle.quota_cells.proofs.numbers.Numbers.leave.Goals as goal

pub index_mut-requires : goal.index_mut-requires
index_mut-requires c = grind (arith, nat_tests, common_steps, there_within, there_now)

pub returns : goal.returns
returns c = grind (arith, nat_tests, common_steps, number_left)
