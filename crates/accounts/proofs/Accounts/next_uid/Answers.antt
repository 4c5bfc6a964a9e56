use Rattle.accounts.proofs.Prelude.{quota_in}
use Rattle.accounts.proofs.Laws.{fresh_of}
use Rattle.accounts.proofs.TreeLaws.{later_any}
use Rattle.accounts.proofs.Accounts.next_uid.Goals as goal

pub returns-clause-fresh : goal.returns-clause-fresh
returns-clause-fresh c = fresh_of c.self.inside.tree c.self.inside.cells c.self.view_is c.next_uid.ensures.fresh

pub returns-clause-below : goal.returns-clause-below
returns-clause-below c = rw (← c.self.view_is) (later_any (quota_in c.self.inside.cells) c.self.inside.tree.nodes
    c.self.inside.tree.next c.next_uid.ensures.below)
