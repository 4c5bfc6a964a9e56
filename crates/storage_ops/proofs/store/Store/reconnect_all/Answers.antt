use Rattle.storage_ops.proofs.Prelude.{plain, reconnected, some_number, uid_in_place as uid_at}
use Rattle.storage_ops.proofs.Laws.{held, shown_held, store_after, shown_linked, known_reconnected, store_reconnected}
use Rattle.storage_ops.proofs.store.Store.reconnect_all.Goals as goal

pub invariant_of-self : goal.invariant_of-self
invariant_of-self g c =
    let t = held c.self.view_is in
    let active = rw (← c.self.view_is) at c.requires.active in
    let rights = rw (← c.self.view_is) at c.requires.rights in
    let at = some_number (uid_at t.segs.ast.entries c.args.aste) active in
    store_after g.D.Drive.pages t.accounts t.whos c.reconnect_all.ensures.effect
    (store_reconnected (plain g.D.Drive.pages t.segs.pages) t.segs.ast t.accounts t.whos c.args.aste c.args.pages at.0
    at.1 c.args.list.now c.args.modes.now t.segs.links (λ i lt. rights.each i at.0 lt at.1) c.self.invariant)

pub returns-clause-shown : goal.returns-clause-shown
returns-clause-shown g c = λ p s h.
    let t = held c.self.view_is in
    rw c.reconnect_all.ensures.effect
    (shown_linked (reconnected t.segs.links c.args.aste c.args.list.now c.args.modes.now c.args.pages)
    (known_reconnected c.args.aste c.args.pages c.args.list.now c.args.modes.now t.segs.links)
    (shown_held c.self.view_is h))
