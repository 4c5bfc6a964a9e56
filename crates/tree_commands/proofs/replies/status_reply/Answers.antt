use Rattle.tree_commands.proofs.Prelude.{List, sym, ap, ◌∙◌, Node, quota_in, used_by, as_term, status_refused, status_directory, status_segment}
use Rattle.tree_commands.proofs.replies.status_reply.Goals as goal

pub returns-in-Err : goal.returns-in-Err
returns-in-Err c = λ s h. status_refused s _ _ h.nodes _ c.in-Err.ensures.err

pub returns-then-node : goal.returns-then-node
returns-then-node c = λ s h.
    status_directory s _ _ h.nodes (as_term (quota_in c.args.accounts.now.nodes) c.in-Ok.node.now) _ _
    c.in-Ok.ensures.ok c.if-node.true c.quota-quota.ensures.quota
    (c.used-used.ensures.scratch s.stored h.counts
    ∙ ap (λ (ns : List Node). used_by ns s.stored c.in-Ok.node.now.uid) (sym h.nodes))

pub returns-else-node : goal.returns-else-node
returns-else-node c = λ s h.
    status_segment s _ _ h.nodes (as_term (quota_in c.args.accounts.now.nodes) c.in-Ok.node.now) _
    c.in-Ok.ensures.ok c.if-node.false (c.stored-stored.ensures.stored ∙ h.counts c.in-Ok.node.now.uid)
