use Rattle.accounts.proofs.Laws.{used_within}
use Rattle.accounts.proofs.Accounts.used.Goals as goal

pub returns-clause-scratch : goal.returns-clause-scratch
returns-clause-scratch c = rw (← c.self.view_is) (λ stored holds. c.used.ensures.scratch c.self.inside.tree.nodes stored
    c.promise.ensures.chains c.self.invariant holds)

pub returns-clause-within : goal.returns-clause-within
returns-clause-within c = rw (← c.self.view_is, c.used.ensures.used) (used_within c.self.inside.tree c.self.inside.cells
    c.self.invariant c.used.ensures.within c.args.account)
