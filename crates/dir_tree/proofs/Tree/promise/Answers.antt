use Rattle.dir_tree.proofs.Prelude.{newest, shapes, has_chains}
use Rattle.dir_tree.proofs.KeptLemmas.{below_newest}
use Rattle.dir_tree.proofs.Tree.promise.Goals as goal

pub returns-clause-chains : goal.returns-clause-chains
returns-clause-chains c = rw (← c.self.view_is) (has_chains
    (shapes (newest c.self.inside.nodes.items c.self.inside.entries)) c.self.invariant.0.tree)

pub returns-clause-below : goal.returns-clause-below
returns-clause-below c = rw (← c.self.view_is)
    (below_newest c.self.inside.next c.self.inside.nodes.items c.self.inside.entries
    (λ i lt. rw (c.self.invariant.0.uids i lt) (c.self.invariant.0.below i lt)))
