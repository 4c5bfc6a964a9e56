use Rattle.script.proofs.Prelude.{nat_tests, arith, common_steps}
use Rattle.script.proofs.DraftLaws.{fail_added}
use Rattle.script.proofs.drafts.Draft.fail.Goals as goal

pub invariant_of-self-2 : goal.invariant_of-self-2
invariant_of-self-2 c = grind (arith, nat_tests, common_steps, fail_added)
