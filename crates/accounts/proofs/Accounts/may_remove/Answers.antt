use Rattle.accounts.proofs.Laws.{there_of}
use Rattle.accounts.proofs.Accounts.may_remove.Goals as goal

pub may_remove-requires-clause-there : goal.may_remove-requires-clause-there
may_remove-requires-clause-there c = there_of c.self.inside.tree c.self.inside.cells c.self.view_is
    c.args.uid c.requires.there
