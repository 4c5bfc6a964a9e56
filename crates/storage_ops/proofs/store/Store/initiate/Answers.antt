use Rattle.storage_ops.proofs.Prelude.{ℕ, with_number, quota_in, as_term, kst_at, segment_refuses, uid_below}
use Rattle.storage_ops.proofs.Laws.{held, shown_held, store_after, initiate_answered, known_store, under_with, initiate_refused, initiate_told}
use Rattle.storage_ops.proofs.store.Store.initiate.Goals as goal

pub returns-in-Err-clause-answer : goal.returns-in-Err-clause-answer
returns-in-Err-clause-answer g c = λ p s h.
    let before = shown_held c.self.view_is h in
    initiate_refused s before.tree.nodes before.known c.args.process c.args.path.now c.in-Err.ensures.err

pub returns-in-Err-clause-effect : goal.returns-in-Err-clause-effect
returns-in-Err-clause-effect g c = λ p s h.
    rw (segment_refuses c.self.inside.accounts.nodes c.args.path.now c.in-Err.reply c.in-Err.ensures.err) h

pub invariant_of-self : goal.invariant_of-self
invariant_of-self g c =
    let uid : ℕ = c.in-Ok.node.now.uid in
    let kst = kst_at c.self.inside.segs.links.known c.args.process in
    store_after g.D.Drive.pages c.self.inside.accounts c.self.inside.whos.items c.make_known.ensures.effect
    (known_store c.args.process (with_number kst uid c.make_known.result) c.self.invariant
    (under_with c.self.inside.accounts.next kst uid c.make_known.result
    (uid_below c.self.inside.accounts.next c.self.inside.accounts.nodes uid _ c.next_uid-next.ensures.below
    c.in-Ok.ensures.there) (c.self.invariant.known.older c.args.process)))

pub returns-clause-answer : goal.returns-clause-answer
returns-clause-answer g c = λ p s h.
    let before = shown_held c.self.view_is h in
    cc (initiate_told s before.tree.nodes before.known c.args.process c.args.path.now c.in-Ok.ensures.ok
    c.make_known.ensures.number)

pub returns-clause-effect : goal.returns-clause-effect
returns-clause-effect g c = λ p s h.
    let before = shown_held c.self.view_is h in
    rw c.make_known.ensures.effect (initiate_answered g.D.Drive.pages p s (held c.self.view_is) c.args.process
    c.args.path.now
    (as_term (quota_in c.self.inside.accounts.nodes) c.in-Ok.node.now) c.make_known.result c.known_or_full.result
    before c.in-Ok.ensures.ok c.make_known.ensures.number c.known_or_full.ensures)
