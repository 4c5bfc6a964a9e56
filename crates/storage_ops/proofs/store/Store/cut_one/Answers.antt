use Rattle.storage_ops.proofs.Prelude.{plain, leads_at}
use Rattle.storage_ops.proofs.Laws.{store_after, store_cut}
use Rattle.storage_ops.proofs.store.Store.cut_one.Goals as goal

pub invariant_of-self : goal.invariant_of-self
invariant_of-self g c =
    store_after g.D.Drive.pages c.self.inside.accounts c.self.inside.whos.items c.cut_one.ensures.effect
    (store_cut (plain g.D.Drive.pages c.self.inside.segs.pages) c.self.inside.segs.ast c.self.inside.segs.links
    c.self.inside.accounts c.self.inside.whos.items c.args.process c.args.number
    (leads_at c.self.inside.segs.links.descriptors c.args.process c.args.number) c.self.invariant)
