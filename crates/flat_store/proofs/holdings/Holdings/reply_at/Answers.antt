use Rattle.flat_store.proofs.Prelude.{refl, sym, arith, found_uid, Node, as_term, quota_in}
use Rattle.flat_store.proofs.ReplyLaws.{within, node_shown}
use Rattle.flat_store.proofs.NodeLaws.{pages_held}
use Rattle.flat_store.proofs.holdings.Holdings.reply_at.Goals as goal

pub page_reply-requires : goal.page_reply-requires
page_reply-requires c = pages_held c.self.invariant.2 (sym c.self.view_is) c.args.uid c.in-Some.ensures.some
    (omega (arith, c.if-offset-node.false))

pub returns : goal.returns
returns c = λ p s k h who.
    let n : Node = as_term (quota_in s.nodes) c.in-Some.node.now in
    let found = node_shown (rw (← c.self.view_is) at h) c.args.uid c.in-Some.node.now c.in-Some.ensures.some in
    within p s k c.args.uid c.args.offset c.args.kind.now found
    (rw (← who, ← c.access_of.ensures, ← c.permitted_by.ensures) c.if-not-permitted_by.false) c.if-offset-node.false
    (c.page_reply.ensures p s n h (found_uid s.nodes c.args.uid n found) refl)
