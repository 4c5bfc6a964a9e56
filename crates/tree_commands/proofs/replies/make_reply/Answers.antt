use Rattle.tree_commands.proofs.Prelude.{refl, quota_in, as_term, make_root, make_refused, make_in_segment, make_told}
use Rattle.tree_commands.proofs.replies.make_reply.Goals as goal

pub returns-in_default : goal.returns-in_default
returns-in_default c = λ p s volume h full.
    make_root p s c.args.path.now volume c.args.dir c.in_default.ensures.root

pub returns-then-node : goal.returns-then-node
returns-then-node c = λ p s volume h full.
    make_told p s c.args.accounts.now.nodes c.args.path.now c.in-Some.above.now c.in-Some.name.now volume
    c.args.dir h.nodes c.in-Some.ensures.parts
    (as_term (quota_in c.args.accounts.now.nodes) c.in-Ok.node.now) c.make_in.result c.in-Ok.ensures.ok
    c.if-node.true
    (c.make_in.ensures p s volume (as_term (quota_in c.args.accounts.now.nodes) c.in-Ok.node.now) h refl full)

pub returns-else-node : goal.returns-else-node
returns-else-node c = λ p s volume h full.
    make_in_segment p s c.args.accounts.now.nodes c.args.path.now c.in-Some.above.now c.in-Some.name.now volume
    c.args.dir h.nodes c.in-Some.ensures.parts
    (as_term (quota_in c.args.accounts.now.nodes) c.in-Ok.node.now) c.in-Ok.ensures.ok c.if-node.false

pub returns-in-Err : goal.returns-in-Err
returns-in-Err c = λ p s volume h full.
    make_refused p s c.args.accounts.now.nodes c.args.path.now c.in-Some.above.now c.in-Some.name.now volume
    c.args.dir h.nodes c.in-Some.ensures.parts c.in-Err.reply c.in-Err.ensures.err
