use Rattle.accounts.proofs.Prelude.{sym, ◌∙◌}
use Rattle.accounts.proofs.Laws.{directory_cell, quota_shown}
use Rattle.accounts.proofs.Accounts.quota.Goals as goal

pub quota-requires : goal.quota-requires
quota-requires c = directory_cell c.self.inside.tree c.self.inside.cells c.self.view_is
    c.self.invariant c.args.dir c.requires

pub returns-clause-quota : goal.returns-clause-quota
returns-clause-quota c = rw (← c.self.view_is) (c.quota.ensures.quota ∙ sym
    (quota_shown c.self.inside.tree c.self.inside.cells c.self.invariant c.args.dir))
