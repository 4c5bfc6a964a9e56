use Rattle.std.proofs.lemmas.Grind.{common_steps}
use Rattle.custody.proofs.Prelude.{nat_tests, arith}
use Rattle.custody.proofs.RowLaws.{cut_back, none_released, one_released, pushed, unpushed}
use Rattle.custody.proofs.rows.release_others.Goals as goal

pub loop-process-init : goal.loop-process-init
loop-process-init c = none_released c.args.ready.now.items

pub returns-then-is_err-clause-err : goal.returns-then-is_err-clause-err
returns-then-is_err-clause-err c = grind (arith, nat_tests, common_steps, cut_back, unpushed)

pub loop-process-preserved : goal.loop-process-preserved
loop-process-preserved c = grind (arith, nat_tests, common_steps, one_released, pushed)

pub returns-clause-ok : goal.returns-clause-ok
returns-clause-ok c = grind (arith, nat_tests, common_steps)
