use Rattle.accounts.proofs.Prelude.{◌∙◌}
use Rattle.accounts.proofs.Laws.{segment_cell, quota_shown}
use Rattle.accounts.proofs.Accounts.stored.Goals as goal

pub stored-requires : goal.stored-requires
stored-requires c = segment_cell c.self.inside.tree c.self.inside.cells c.self.view_is c.self.invariant
    c.args.seg c.requires

pub returns-clause-quota : goal.returns-clause-quota
returns-clause-quota c = rw (← c.self.view_is) (quota_shown c.self.inside.tree c.self.inside.cells c.self.invariant
    c.args.seg ∙ c.stored.ensures.quota)
