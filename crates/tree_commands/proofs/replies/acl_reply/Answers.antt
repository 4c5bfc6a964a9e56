use Rattle.tree_commands.proofs.Prelude.{true, false, sym, ◌∙◌, quota_in, as_term, acl_refused, acl_told}
use Rattle.tree_commands.proofs.replies.acl_reply.Goals as goal

pub returns-then-takes : goal.returns-then-takes
returns-then-takes c = λ s h.
    acl_told s c.args.accounts.now.nodes c.args.path.now h.nodes c.args.row.now
    (as_term (quota_in c.args.accounts.now.nodes) c.in-Ok.node.now) true c.in-Ok.ensures.ok
    (sym c.takes.ensures ∙ c.if-takes.true)

pub returns-else-takes : goal.returns-else-takes
returns-else-takes c = λ s h.
    acl_told s c.args.accounts.now.nodes c.args.path.now h.nodes c.args.row.now
    (as_term (quota_in c.args.accounts.now.nodes) c.in-Ok.node.now) false c.in-Ok.ensures.ok
    (sym c.takes.ensures ∙ c.if-takes.false)

pub returns-in-Err : goal.returns-in-Err
returns-in-Err c = λ s h. acl_refused s c.args.accounts.now.nodes c.args.path.now h.nodes c.args.row.now
    c.in-Err.reply c.in-Err.ensures.err
