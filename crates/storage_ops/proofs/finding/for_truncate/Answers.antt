use Rattle.storage_ops.proofs.Prelude.{ap, ◌∙◌, quota_in, as_term, truncate_refused, truncate_told, refusal}
use Rattle.storage_ops.proofs.Laws.{leads_segment, refusal_told, segment_refuses}
use Rattle.storage_ops.proofs.finding.for_truncate.Goals as goal

pub returns-in-Ok : goal.returns-in-Ok
returns-in-Ok c = record {
  leads = leads_segment c.in-Ok.ensures.ok;
  refusal = λ s h. ap refusal (truncate_told s c.args.accounts.now.nodes c.args.path.now h.nodes
      (as_term (quota_in c.args.accounts.now.nodes) c.in-Ok.node.now) c.in-Ok.ensures.ok);
}

pub returns-in-Err-clause-refusal : goal.returns-in-Err-clause-refusal
returns-in-Err-clause-refusal c = λ s h. refusal_told
    (segment_refuses c.args.accounts.now.nodes c.args.path.now c.in-Err.reply c.in-Err.ensures.err)
    ∙ ap refusal (truncate_refused s c.args.accounts.now.nodes c.args.path.now h.nodes c.in-Err.reply
    c.in-Err.ensures.err)
