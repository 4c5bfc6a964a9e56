use Rattle.script.proofs.Prelude.{common_steps, nat_tests, arith, front_closes, line_found}
use Rattle.script.proofs.LaneLaws.{front_clear}
use Rattle.script.proofs.lines.next_checked.Goals as goal

pub returns-then-bytes-front-eq10-clause-lines : goal.returns-then-bytes-front-eq10-clause-lines
returns-then-bytes-front-eq10-clause-lines c = grind (arith, nat_tests, common_steps, line_found, front_clear)

pub returns-then-bytes-front-eq10-clause-closes : goal.returns-then-bytes-front-eq10-clause-closes
returns-then-bytes-front-eq10-clause-closes c = grind (arith, nat_tests, common_steps, front_closes, front_clear)
