use Rattle.accounts.proofs.Prelude.{arith, nat_tests, common_steps}
use Rattle.accounts.proofs.Laws.{walked}
use Rattle.accounts.proofs.Accounts.walk_down.Goals as goal

pub returns-clause-there : goal.returns-clause-there
returns-clause-there c = grind (arith, nat_tests, common_steps, walked)
