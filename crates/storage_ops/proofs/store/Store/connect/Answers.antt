use Rattle.storage_ops.proofs.Prelude.{refl, plain, place_of, linked}
use Rattle.storage_ops.proofs.Laws.{active_held, held, shown_held, store_after, shown_linked, store_linked, active_place}
use Rattle.storage_ops.proofs.store.Store.connect.Goals as goal

pub invariant_of-self : goal.invariant_of-self
invariant_of-self g c =
    let t = held c.self.view_is in
    let right = rw (← c.self.view_is) at c.requires.right in
    store_after g.D.Drive.pages t.accounts t.whos c.connect.ensures.effect
    (store_linked (plain g.D.Drive.pages t.segs.pages) t.segs.ast t.accounts t.whos t.segs.links c.args.process
    c.args.number (place_of t.segs.ast.entries c.args.uid) c.args.pages c.args.uid c.args.mode
    (active_place t.segs.ast.entries c.args.uid (active_held c.self.view_is c.requires.active)) right c.self.invariant)

pub returns-clause-shown : goal.returns-clause-shown
returns-clause-shown g c = λ p s h.
    let t = held c.self.view_is in
    rw c.connect.ensures.effect (shown_linked (linked t.segs.links c.args.process c.args.number
    (place_of t.segs.ast.entries c.args.uid) c.args.mode c.args.pages) refl (shown_held c.self.view_is h))
