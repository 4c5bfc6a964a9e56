use Rattle.storage_ops.proofs.Prelude.{refl}
use Rattle.storage_ops.proofs.Laws.{held, home_for_held, shown_held, here_entries, own_home, shown_kept, store_still}
use Rattle.storage_ops.proofs.store.Store.end_in.Goals as goal

pub invariant_of-self : goal.invariant_of-self
invariant_of-self g c =
    let same = here_entries c.self.inside.segs.ast c.args.uid c.args.p c.args.f c.end_in.result in
    rw c.end_in.ensures.links (store_still c.end_in.ensures.tables.vtocs c.end_in.ensures.tables.records (cc)
    (cc) c.self.invariant)

pub returns-clause-shown : goal.returns-clause-shown
returns-clause-shown g c = λ p s h.
    let u = record (held c.self.view_is) { segs = c.end_in.new.self } in
    shown_kept refl refl c.end_in.ensures.links c.end_in.ensures.tables c.self.invariant.housed (own_home
    c.self.invariant.housed (home_for_held c.self.view_is g.D.Drive.pages c.requires.home)) c.end_in.ensures.words
    (shown_held c.self.view_is h)
