use Rattle.storage_ops.proofs.Prelude.{◌≡◌, ℕ, true, false, refl, sym, ap, ◌∙◌, eqb, ne_eqb, is_err, quota_in, as_term, has_inferior, delete_refused, delete_told, from_false, refusal}
use Rattle.storage_ops.proofs.Laws.{leads_branch, branch_refuses, refusal_told}
use Rattle.storage_ops.proofs.finding.for_delete.Goals as goal

pub returns-in-Err-clause-refusal : goal.returns-in-Err-clause-refusal
returns-in-Err-clause-refusal c = λ s h. refusal_told
    (branch_refuses c.args.accounts.now.nodes c.args.path.now c.in-Err.reply c.in-Err.ensures.err)
    ∙ ap refusal (delete_refused s _ _ h.nodes _ c.in-Err.ensures.err)

pub returns-then-is_err-clause-refusal : goal.returns-then-is_err-clause-refusal
returns-then-is_err-clause-refusal c = λ s h. ap refusal
    (delete_told s c.args.accounts.now.nodes c.args.path.now h.nodes
    (as_term (quota_in c.args.accounts.now.nodes) c.in-Ok.node.now) true
    (eqb (quota_in c.args.accounts.now.nodes c.in-Ok.node.now.uid) 0) c.in-Ok.ensures.ok
    (c.may_remove.ensures.0 (cc)) refl)

pub returns-then-quota_of-eq0 : goal.returns-then-quota_of-eq0
returns-then-quota_of-eq0 c = record {
  leads = leads_branch c.in-Ok.ensures.ok;
  refusal = λ s h.
      ap refusal (delete_told s c.args.accounts.now.nodes c.args.path.now h.nodes
      (as_term (quota_in c.args.accounts.now.nodes) c.in-Ok.node.now) false true c.in-Ok.ensures.ok
      (from_false (is_err c.may_remove.result) (has_inferior c.args.accounts.now.nodes c.in-Ok.node.now.uid)
      c.may_remove.ensures.1 (cc)) (ap (λ (q : ℕ). eqb q 0) (sym c.quota_of.ensures ∙ c.if-quota_of-eq0.true)));
}

pub returns-else-quota_of-eq0-clause-refusal : goal.returns-else-quota_of-eq0-clause-refusal
returns-else-quota_of-eq0-clause-refusal c = λ s h.
    let apart : eqb c.quota_of.result 0 ≡ false = ne_eqb c.quota_of.result 0 c.if-quota_of-eq0.false in
    ap refusal (delete_told s c.args.accounts.now.nodes c.args.path.now h.nodes
    (as_term (quota_in c.args.accounts.now.nodes) c.in-Ok.node.now) false false c.in-Ok.ensures.ok
    (from_false (is_err c.may_remove.result) (has_inferior c.args.accounts.now.nodes c.in-Ok.node.now.uid)
    c.may_remove.ensures.1 (cc)) (cc))
