use Rattle.storage_ops.proofs.Prelude.{true, false, ap, ◌∙◌, quota_in, as_term, acl_refused, acl_told, refusal}
use Rattle.storage_ops.proofs.Laws.{leads_segment, refusal_told, segment_refuses}
use Rattle.storage_ops.proofs.finding.for_acl.Goals as goal

pub returns-then-takes : goal.returns-then-takes
returns-then-takes c = record {
  leads = leads_segment c.in-Ok.ensures.ok;
  refusal = λ s h. ap refusal (acl_told s c.args.accounts.now.nodes c.args.path.now h.nodes c.args.row.now
      (as_term (quota_in c.args.accounts.now.nodes) c.in-Ok.node.now) true c.in-Ok.ensures.ok (cc));
}

pub returns-else-takes-clause-refusal : goal.returns-else-takes-clause-refusal
returns-else-takes-clause-refusal c = λ s h. ap refusal
    (acl_told s c.args.accounts.now.nodes c.args.path.now h.nodes c.args.row.now
    (as_term (quota_in c.args.accounts.now.nodes) c.in-Ok.node.now) false c.in-Ok.ensures.ok (cc))

pub returns-in-Err-clause-refusal : goal.returns-in-Err-clause-refusal
returns-in-Err-clause-refusal c = λ s h. refusal_told
    (segment_refuses c.args.accounts.now.nodes c.args.path.now c.in-Err.reply c.in-Err.ensures.err)
    ∙ ap refusal (acl_refused s c.args.accounts.now.nodes c.args.path.now h.nodes c.args.row.now
    c.in-Err.reply c.in-Err.ensures.err)
