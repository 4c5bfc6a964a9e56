use Rattle.quota_cells.proofs.Prelude.{common_steps, arith, nat_tests}
use Rattle.quota_cells.proofs.PadLaws.{blanks_next}
use Rattle.quota_cells.proofs.by_uid.reach.Goals as goal

pub loop-preserved : goal.loop-preserved
loop-preserved g c = grind (arith, nat_tests, common_steps, blanks_next)
