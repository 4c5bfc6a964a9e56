use Rattle.accounts.proofs.Prelude.{arith, w32, to_z-of_z, nat_tests, common_steps}
use Rattle.accounts.proofs.Laws.{directory_of, moved_shown}
use Rattle.accounts.proofs.Accounts.move_quota.Goals as goal

pub move_quota-requires-clause-directory : goal.move_quota-requires-clause-directory
move_quota-requires-clause-directory c = directory_of c.self.inside.tree c.self.inside.cells
    c.self.view_is c.args.dir c.requires.directory

pub returns-clause-answer : goal.returns-clause-answer
returns-clause-answer c =
    let back = to_z-of_z w32 c.args.amount c.ranges.amount in
    rw (← c.self.view_is) (rw back at c.move_quota.ensures.scratch)

pub returns-clause-ok : goal.returns-clause-ok
returns-clause-ok c = grind (arith, nat_tests, common_steps, to_z-of_z, moved_shown)
