use Rattle.dir_tree.proofs.Prelude.{common_steps, sym, ◌∙◌, arith, newest, has_chains, shape, shapes, length-map, nat_tests}
use Rattle.dir_tree.proofs.ChangedLemmas.{rows_added}
use Rattle.dir_tree.proofs.KeptLemmas.{next_missing, no_fault}
use Rattle.dir_tree.proofs.QuotaLemmas.{fault_any, unless_none}
use Rattle.dir_tree.proofs.Tree.add_branch.Goals as goal

pub attach-requires-clause-may : goal.attach-requires-clause-may
attach-requires-clause-may c =
    sym (fault_any (λ _. 0) c.args.self.now.nodes c.args.superior c.args.new.name c.args.new.dir)
    ∙ unless_none _ _ _ (sym (c.may_add.ensures (λ _. 0)) ∙ c.in_ok-may_add.was)

pub returns-in_err-may_add-clause-fresh : goal.returns-in_err-may_add-clause-fresh
returns-in_err-may_add-clause-fresh c = rw (← c.self.view_is) (next_missing c.self.invariant.0)

pub returns-clause-fresh : goal.returns-clause-fresh
returns-clause-fresh c = rw (← c.self.view_is) (next_missing c.self.invariant.0)

pub returns-clause-room : goal.returns-clause-room
returns-clause-room c =
    let none = sym (fault_any (λ _. 0) c.args.self.now.nodes c.args.superior c.args.new.name c.args.new.dir)
    ∙ unless_none _ _ _ (sym (c.may_add.ensures (λ _. 0)) ∙ c.in_ok-may_add.was) in
    omega (
      arith,
      no_fault (shapes c.args.self.now.nodes) c.args.superior c.args.new.name c.args.new.dir none,
      length-map c.args.self.now.nodes shape,
    )

pub returns-in_err-may_add-clause-chains : goal.returns-in_err-may_add-clause-chains
returns-in_err-may_add-clause-chains c = grind (arith, nat_tests, common_steps, has_chains)

pub returns-clause-chains : goal.returns-clause-chains
returns-clause-chains c = rw (← c.self.view_is) (has_chains
    (shapes (newest c.self.inside.nodes.items c.self.inside.entries)) c.self.invariant.0.tree)

pub returns-clause-ok : goal.returns-clause-ok
returns-clause-ok c = grind (arith, nat_tests, common_steps, rows_added, next_missing)
