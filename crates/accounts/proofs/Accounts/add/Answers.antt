use Rattle.accounts.proofs.Prelude.{◌≡◌, ◌∙◌, arith, on_nodes, nat_tests, common_steps}
use Rattle.accounts.proofs.Laws.{directory_of, unless_ok, enters_fit, gained}
use Rattle.accounts.proofs.Accounts.add.Goals as goal

pub add_branch-requires-clause-directory : goal.add_branch-requires-clause-directory
add_branch-requires-clause-directory c = directory_of c.self.inside.tree c.self.inside.cells
    c.self.view_is c.args.superior c.requires.directory

pub enter-requires-clause-bound : goal.enter-requires-clause-bound
enter-requires-clause-bound c = grind (arith, nat_tests, common_steps, unless_ok)

pub enter-requires-clause-absent : goal.enter-requires-clause-absent
enter-requires-clause-absent c =
    let next : c.in_ok-uid.uid ≡ c.self.inside.tree.next = unless_ok _ (c.in_ok-uid.ensures.answer (λ u. 0)) in
    on_nodes c.self.inside.tree.nodes c.self.invariant c.in_ok-uid.uid ∙ (rw next c.add_branch.ensures.fresh)

pub invariant_of-self-2 : goal.invariant_of-self-2
invariant_of-self-2 c =
    let next : c.in_ok-uid.uid ≡ c.self.inside.tree.next = unless_ok _ (c.in_ok-uid.ensures.answer (λ u. 0)) in
    enters_fit c.self.inside.tree c.add_branch.new.self c.args.superior c.args.new c.in_ok-uid.uid c.self.inside.cells
    c.enter.new.self c.in_ok-uid.ensures.ok
    next c.add_branch.ensures.fresh c.add_branch.ensures.chains c.self.invariant c.enter.ensures.fits

pub returns-clause-ok : goal.returns-clause-ok
returns-clause-ok c =
    let next : c.in_ok-uid.uid ≡ c.self.inside.tree.next = unless_ok _ (c.in_ok-uid.ensures.answer (λ u. 0)) in
    rw (← c.self.view_is) (gained c.self.inside.tree c.add_branch.new.self c.args.superior c.args.new c.in_ok-uid.uid
    c.self.inside.cells
    c.enter.new.self c.in_ok-uid.ensures.ok next c.add_branch.ensures.fresh c.self.invariant c.enter.ensures.enters)
