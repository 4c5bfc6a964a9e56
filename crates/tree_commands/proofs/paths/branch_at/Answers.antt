use Rattle.tree_commands.proofs.Prelude.{ℕ, List, length, eqb, sym, ap, ◌∙◌, quota_in, as_term, apart_shown}
use Rattle.tree_commands.proofs.paths.branch_at.Goals as goal

pub returns-clause-branch : goal.returns-clause-branch
returns-clause-branch c =
    apart_shown c.args.accounts.now.nodes c.args.path.now (λ n. as_term (quota_in c.args.accounts.now.nodes) n.now)
    c.node_at.result c.look.ensures.tree
    (ap (λ (ns : List (List ℕ)). eqb (length ns) 0) (sym c.names.ensures.names) ∙ sym c.is_empty.ensures
    ∙ c.if-is_empty.false)
    c.node_at.ensures.ok
