use Rattle.accounts.proofs.Prelude.{◌∙◌, arith, as_node, fault_any, on_nodes, nat_tests, common_steps}
use Rattle.accounts.proofs.Laws.{directory_of, enters_fit, gained}
use Rattle.accounts.proofs.Accounts.attach.Goals as goal

pub attach-uid-requires-clause-directory : goal.attach-uid-requires-clause-directory
attach-uid-requires-clause-directory c = directory_of c.self.inside.tree c.self.inside.cells
    c.self.view_is c.args.superior c.requires.directory

pub attach-uid-requires-clause-may : goal.attach-uid-requires-clause-may
attach-uid-requires-clause-may c = grind (arith, nat_tests, common_steps, fault_any)

pub enter-requires-clause-bound : goal.enter-requires-clause-bound
enter-requires-clause-bound c = grind (arith, nat_tests, common_steps)

pub enter-requires-clause-absent : goal.enter-requires-clause-absent
enter-requires-clause-absent c = on_nodes c.self.inside.tree.nodes c.self.invariant c.attach-uid.result
    ∙ (rw c.attach-uid.ensures.uid c.attach-uid.ensures.fresh)

pub invariant_of-self : goal.invariant_of-self
invariant_of-self c =
    enters_fit c.self.inside.tree c.attach-uid.new.self c.args.superior (as_node c.args.new) c.attach-uid.result
    c.self.inside.cells c.enter.new.self c.attach-uid.ensures.tree c.attach-uid.ensures.uid c.attach-uid.ensures.fresh
    c.attach-uid.ensures.chains c.self.invariant c.enter.ensures.fits

pub returns-clause-effect : goal.returns-clause-effect
returns-clause-effect c = rw (← c.self.view_is) (gained c.self.inside.tree c.attach-uid.new.self c.args.superior
    (as_node c.args.new) c.attach-uid.result
    c.self.inside.cells c.enter.new.self c.attach-uid.ensures.tree c.attach-uid.ensures.uid c.attach-uid.ensures.fresh
    c.self.invariant c.enter.ensures.enters)
