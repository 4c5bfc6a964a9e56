use Rattle.storage_ops.proofs.Laws.{store_after, store_inactive}
use Rattle.storage_ops.proofs.store.Store.deactivate.Goals as goal

pub invariant_of-self : goal.invariant_of-self
invariant_of-self g c =
    store_after g.D.Drive.pages c.self.inside.accounts c.self.inside.whos.items c.deactivate.ensures.effect
    (store_inactive c.args.place c.self.invariant)
