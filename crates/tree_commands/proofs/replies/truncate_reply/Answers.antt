use Rattle.tree_commands.proofs.Prelude.{quota_in, as_term, truncate_refused, truncate_told}
use Rattle.tree_commands.proofs.replies.truncate_reply.Goals as goal

pub returns-in-Ok : goal.returns-in-Ok
returns-in-Ok c = λ s h.
    truncate_told s c.args.accounts.now.nodes c.args.path.now h.nodes
    (as_term (quota_in c.args.accounts.now.nodes) c.in-Ok.field-0.now)
    c.in-Ok.ensures.ok

pub returns-in-Err : goal.returns-in-Err
returns-in-Err c = λ s h. truncate_refused s c.args.accounts.now.nodes c.args.path.now h.nodes c.in-Err.reply
    c.in-Err.ensures.err
