use Rattle.tree_commands.proofs.Prelude.{◌≡◌, ℕ, List, true, false, not, is_ok, sym, ap, ◌∙◌, Named, rows_in, takes_row, Node, quota_in, as_term, segment_refuses, acl_refused, acl_told, from_false}
use Rattle.tree_commands.proofs.NodeLaws.{rows_found}
use Rattle.tree_commands.proofs.rights.set_row.Goals as goal

pub returns-in-Err-clause-answer : goal.returns-in-Err-clause-answer
returns-in-Err-clause-answer c = λ s h. acl_refused s c.args.accounts.now.nodes c.args.path.now h.nodes c.args.row.now
    c.in-Err.reply c.in-Err.ensures.err

pub returns-in-Err-clause-done : goal.returns-in-Err-clause-done
returns-in-Err-clause-done c = λ on.
    let clash : true ≡ false = sym on ∙ segment_refuses c.args.accounts.now.nodes c.args.path.now c.in-Err.reply
    c.in-Err.ensures.err in cc

pub returns-then-is_err-clause-answer : goal.returns-then-is_err-clause-answer
returns-then-is_err-clause-answer c = λ s h.
    let nodes : List Node = c.args.accounts.now.nodes in
    let uid : ℕ = c.in-Ok.node.now.uid in
    let n : Node = as_term (quota_in nodes) c.in-Ok.node.now in
    let takes = ap (λ (r : Named). takes_row r.person r.project (rows_in nodes uid)) (sym c.copied.ensures)
    ∙ from_false (is_ok c.set_row.result) (takes_row c.copied.result.person c.copied.result.project (rows_in nodes uid))
    c.set_row.ensures.full.1 (c.is_err.ensures.negation ∙ ap not c.if-is_err.true) in
    acl_told s nodes c.args.path.now h.nodes c.args.row.now n false c.in-Ok.ensures.ok
    (ap (takes_row c.args.row.now.person c.args.row.now.project) (sym (rows_found nodes uid n c.in-Ok.ensures.there))
    ∙ takes)

pub returns-clause-answer : goal.returns-clause-answer
returns-clause-answer c = λ s h.
    let nodes : List Node = c.args.accounts.now.nodes in
    let uid : ℕ = c.in-Ok.node.now.uid in
    let n : Node = as_term (quota_in nodes) c.in-Ok.node.now in
    let takes = ap (λ (r : Named). takes_row r.person r.project (rows_in nodes uid)) (sym c.copied.ensures)
    ∙ c.set_row.ensures.full.0 (c.is_err.ensures.negation ∙ ap not c.if-is_err.false) in
    acl_told s nodes c.args.path.now h.nodes c.args.row.now n true c.in-Ok.ensures.ok
    (ap (takes_row c.args.row.now.person c.args.row.now.project) (sym (rows_found nodes uid n c.in-Ok.ensures.there))
    ∙ takes)
