use Rattle.accounts.proofs.Prelude.{◌≤◌, subst, quota_at, quota_in, used_same, accounts_of}
use Rattle.accounts.proofs.Laws.{columns, no_pages, no_quota, used_within}
use Rattle.accounts.proofs.TreeLaws.{later_any, tree_shown}
use Rattle.accounts.proofs.Accounts.promise.Goals as goal

pub returns-clause-tree : goal.returns-clause-tree
returns-clause-tree c = tree_shown (quota_in c.self.inside.cells) c.self.inside.tree.nodes (cc) c.promise.ensures.tree

pub returns-clause-below : goal.returns-clause-below
returns-clause-below c = rw (← c.self.view_is) (later_any (quota_in c.self.inside.cells) c.self.inside.tree.nodes
    c.self.inside.tree.next c.promise.ensures.below)

pub returns-clause-columns : goal.returns-clause-columns
returns-clause-columns c = columns c.self.inside.tree c.self.inside.cells c.self.view_is c.self.invariant
    c.promise-2.ensures.table

pub returns-clause-within : goal.returns-clause-within
returns-clause-within c = rw (← c.self.view_is) (λ stored holds account.
    subst (λ n. n ≤ quota_at (accounts_of c.self.inside.tree c.self.inside.cells).nodes
    account) (used_same c.self.inside.tree.nodes c.self.inside.cells c.self.invariant c.promise.ensures.chains
    c.promise-2.ensures.table.segments_rise c.promise-2.ensures.table.stored_count stored holds account)
    (used_within c.self.inside.tree c.self.inside.cells c.self.invariant c.promise-2.ensures.within account))

pub returns-clause-quotas : goal.returns-clause-quotas
returns-clause-quotas c = no_quota _ _ c.self.view_is c.self.invariant c.promise-2.ensures.table

pub returns-clause-counts : goal.returns-clause-counts
returns-clause-counts c = no_pages _ _ c.self.view_is c.self.invariant c.promise-2.ensures.table
