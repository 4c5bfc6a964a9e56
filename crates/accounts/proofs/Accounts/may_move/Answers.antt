use Rattle.accounts.proofs.Prelude.{arith, to_z-of_z, nat_tests, common_steps}
use Rattle.accounts.proofs.Laws.{directory_of}
use Rattle.accounts.proofs.Accounts.may_move.Goals as goal

pub may_move-requires-clause-directory : goal.may_move-requires-clause-directory
may_move-requires-clause-directory c = directory_of c.self.inside.tree c.self.inside.cells
    c.self.view_is c.args.dir c.requires.directory

pub returns : goal.returns
returns c = grind (arith, nat_tests, common_steps, to_z-of_z)
