use Rattle.dir_tree.proofs.Prelude.{arith, common_steps, refl, sym, ◌∙◌, nat_tests}
use Rattle.dir_tree.proofs.QuotaLemmas.{fault_by}
use Rattle.dir_tree.proofs.Tree.may_add.Goals as goal

pub returns-then-has_branch : goal.returns-then-has_branch
returns-then-has_branch c quota = sym (cc (fault_by quota c.args.self.now.nodes c.args.superior c.args.name.now
    c.args.dir (sym c.has_branch.ensures ∙ c.if-has_branch.true) refl refl))

pub returns-then-is_too_deep : goal.returns-then-is_too_deep
returns-then-is_too_deep c quota = grind (arith, nat_tests, common_steps, fault_by)

pub returns-then-is_full : goal.returns-then-is_full
returns-then-is_full c quota = grind (arith, nat_tests, common_steps, fault_by)

pub returns : goal.returns
returns c quota = grind (arith, nat_tests, common_steps, fault_by)
