use Rattle.dir_tree.proofs.KeptLemmas.{next_missing}
use Rattle.dir_tree.proofs.Tree.next_uid.Goals as goal

pub returns-clause-fresh : goal.returns-clause-fresh
returns-clause-fresh c = rw (← c.self.view_is) (next_missing c.self.invariant.0)
