use Rattle.storage_ops.proofs.Prelude.{ℕ}
use Rattle.storage_ops.proofs.ByDescriptor.{held_refuses}
use Rattle.storage_ops.proofs.store.Store.right_held.Goals as goal

pub returns-in-Present : goal.returns-in-Present
returns-in-Present g c =
    let number : ℕ = c.args.reference.now.number in
    held_refuses c.args.self.now c.segs.ensures.store (rw (← c.segs.ensures.segs)
    c.descriptors.ensures.linked) c.args.process c.args.reference.now c.in-Present.aste c.in-Present.pages
    c.in-Present.mode (cc (c.segs.ensures.segs, c.descriptors.ensures.words, c.get.ensures.word, c.in-Present.is))
