use Rattle.std.proofs.lemmas.Grind.{common_steps}
use Rattle.custody.proofs.Prelude.{arith, nat_tests}
use Rattle.custody.proofs.RowLaws.{dropped_idle}
use Rattle.custody.proofs.seats.SeatRow.drop_named.Goals as goal

pub returns-in_default : goal.returns-in_default
returns-in_default c = grind (arith, nat_tests, common_steps, dropped_idle)
