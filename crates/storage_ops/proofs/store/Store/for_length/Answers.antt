use Rattle.storage_ops.proofs.Prelude.{true, false, ap, ◌∙◌, quota_in, as_term, length_refused, length_told, refusal}
use Rattle.storage_ops.proofs.Laws.{leads_segment, refusal_told, segment_refuses}
use Rattle.storage_ops.proofs.store.Store.for_length.Goals as goal

pub returns-then-stores_from-clause-refusal : goal.returns-then-stores_from-clause-refusal
returns-then-stores_from-clause-refusal g c = λ p s h. ap refusal
    (length_told s c.accounts.result.now.nodes c.args.path.now (cc) c.args.pages
    (as_term (quota_in c.accounts.result.now.nodes) c.in-Ok.node.now) true c.in-Ok.ensures.ok
    (cc (c.stores_from.ensures.answer p s h)))

pub returns-else-stores_from-clause-refusal : goal.returns-else-stores_from-clause-refusal
returns-else-stores_from-clause-refusal g c = λ p s h. ap refusal
    (length_told s c.accounts.result.now.nodes c.args.path.now (cc) c.args.pages
    (as_term (quota_in c.accounts.result.now.nodes) c.in-Ok.node.now) false c.in-Ok.ensures.ok
    (cc (c.stores_from.ensures.answer p s h)))

pub returns-else-stores_from-clause-leads : goal.returns-else-stores_from-clause-leads
returns-else-stores_from-clause-leads g c = rw (← c.accounts.ensures.accounts) (leads_segment c.in-Ok.ensures.ok)

pub returns-in-Err-clause-refusal : goal.returns-in-Err-clause-refusal
returns-in-Err-clause-refusal g c = λ p s h. refusal_told
    (segment_refuses c.accounts.result.now.nodes c.args.path.now c.in-Err.reply c.in-Err.ensures.err)
    ∙ ap refusal (length_refused s c.accounts.result.now.nodes c.args.path.now (cc) c.args.pages c.in-Err.reply
    c.in-Err.ensures.err)
