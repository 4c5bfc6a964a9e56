use Rattle.accounts.proofs.Prelude.{quota_in}
use Rattle.accounts.proofs.Laws.{node_shown, entry_shown, directory_shown, segment_shown}
use Rattle.accounts.proofs.Accounts.node.Goals as goal

pub returns-clause-some : goal.returns-clause-some
returns-clause-some c = rw (← c.self.view_is) (node_shown (λ n. n.now) c.self.inside.tree c.self.inside.cells
    c.self.invariant c.args.uid c.node.result (c.node.ensures.term (quota_in c.self.inside.cells)))

pub returns-clause-entry : goal.returns-clause-entry
returns-clause-entry c =
    rw (← c.self.view_is) (entry_shown (λ n. n.now) c.self.inside.tree c.self.inside.cells c.args.uid c.node.result
    c.node.ensures.some)

pub returns-clause-directory : goal.returns-clause-directory
returns-clause-directory c =
    rw (← c.self.view_is) (directory_shown (λ n. n.now) c.self.inside.tree c.self.inside.cells c.args.uid c.node.result
    c.node.ensures.some)

pub returns-clause-segment : goal.returns-clause-segment
returns-clause-segment c =
    rw (← c.self.view_is) (segment_shown (λ n. n.now) c.self.inside.tree c.self.inside.cells c.args.uid c.node.result
    c.node.ensures.some)
