use Rattle.storage_ops.proofs.Prelude.{plain}
use Rattle.storage_ops.proofs.Laws.{held, shown_held, store_after, shown_all_cut, store_all_cut}
use Rattle.storage_ops.proofs.store.Store.cut_all.Goals as goal

pub invariant_of-self : goal.invariant_of-self
invariant_of-self g c =
    store_after g.D.Drive.pages c.self.inside.accounts c.self.inside.whos.items c.cut_all.ensures.effect
    (store_all_cut (plain g.D.Drive.pages c.self.inside.segs.pages) c.self.inside.segs.ast c.self.inside.segs.links
    c.self.inside.accounts c.self.inside.whos.items c.args.aste c.self.invariant)

pub returns-clause-shown : goal.returns-clause-shown
returns-clause-shown g c = λ p s h.
    let t = held c.self.view_is in
    rw c.cut_all.ensures.effect (shown_all_cut c.args.aste (shown_held c.self.view_is h))
