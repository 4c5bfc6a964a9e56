use Rattle.storage_ops.proofs.Prelude.{true, false, ap, quota_in, as_term, refusal, length_refused}
use Rattle.storage_ops.proofs.Laws.{tree_held, length_answered}
use Rattle.storage_ops.proofs.store.Store.length_refusal.Goals as goal

pub returns-then-stores_from : goal.returns-then-stores_from
returns-then-stores_from g c = λ p s h.
    ap refusal (length_answered c.self.view_is g.D.Drive.pages p s h c.args.path.now c.args.pages
    (as_term (quota_in c.self.inside.accounts.nodes) c.in-Ok.node.now) true c.stores_from.result c.in-Ok.ensures.ok
    (c.stores_from.ensures.answer p s h) c.if-stores_from.true)

pub returns-else-stores_from : goal.returns-else-stores_from
returns-else-stores_from g c = λ p s h.
    ap refusal (length_answered c.self.view_is g.D.Drive.pages p s h c.args.path.now c.args.pages
    (as_term (quota_in c.self.inside.accounts.nodes) c.in-Ok.node.now) false c.stores_from.result c.in-Ok.ensures.ok
    (c.stores_from.ensures.answer p s h) c.if-stores_from.false)

pub returns-in-Err : goal.returns-in-Err
returns-in-Err g c = λ p s h.
    cc (length_refused s c.self.inside.accounts.nodes c.args.path.now (tree_held c.self.view_is h.tree).nodes
    c.args.pages c.in-Err.reply c.in-Err.ensures.err)
