use Rattle.tree_commands.proofs.Prelude.{◌≡◌, ℕ, true, false, refl, sym, ap, ◌∙◌, eqb, ne_eqb, is_err, quota_in, as_term, has_inferior, delete_refused, delete_told, from_false}
use Rattle.tree_commands.proofs.replies.delete_reply.Goals as goal

pub returns-in-Err : goal.returns-in-Err
returns-in-Err c = λ s h. delete_refused s _ _ h.nodes _ c.in-Err.ensures.err

pub returns-then-is_err : goal.returns-then-is_err
returns-then-is_err c = λ s h.
    delete_told s c.args.accounts.now.nodes c.args.path.now h.nodes
    (as_term (quota_in c.args.accounts.now.nodes) c.in-Ok.node.now) true
    (eqb (quota_in c.args.accounts.now.nodes c.in-Ok.node.now.uid) 0) c.in-Ok.ensures.ok
    (c.may_remove.ensures.0 (sym c.is_err.ensures.value ∙ c.if-is_err.true)) refl

pub returns-then-quota_of-eq0 : goal.returns-then-quota_of-eq0
returns-then-quota_of-eq0 c = λ s h.
    let none = from_false (is_err c.may_remove.result) (has_inferior c.args.accounts.now.nodes c.in-Ok.node.now.uid)
    c.may_remove.ensures.1 (sym c.is_err.ensures.value ∙ c.if-is_err.false) in
    delete_told s c.args.accounts.now.nodes c.args.path.now h.nodes
    (as_term (quota_in c.args.accounts.now.nodes) c.in-Ok.node.now) false true c.in-Ok.ensures.ok none
    (ap (λ (q : ℕ). eqb q 0) (sym c.quota_of.ensures ∙ c.if-quota_of-eq0.true))

pub returns-else-quota_of-eq0 : goal.returns-else-quota_of-eq0
returns-else-quota_of-eq0 c = λ s h.
    let none = from_false (is_err c.may_remove.result) (has_inferior c.args.accounts.now.nodes c.in-Ok.node.now.uid)
    c.may_remove.ensures.1 (sym c.is_err.ensures.value ∙ c.if-is_err.false) in
    let apart : eqb c.quota_of.result 0 ≡ false = ne_eqb c.quota_of.result 0 c.if-quota_of-eq0.false in
    delete_told s c.args.accounts.now.nodes c.args.path.now h.nodes
    (as_term (quota_in c.args.accounts.now.nodes) c.in-Ok.node.now) false false c.in-Ok.ensures.ok none
    (ap (λ (q : ℕ). eqb q 0) (sym c.quota_of.ensures) ∙ apart)
