use Rattle.outcomes.proofs.Prelude.{arith, nat_tests}
use Rattle.outcomes.proofs.LineLaws.{lines_written}
use Rattle.outcomes.proofs.lines.push_differing.Goals as goal

pub returns : goal.returns
returns c = lines_written _ _ _ _ (grind (arith, nat_tests)) c.loop-rest.invariant
