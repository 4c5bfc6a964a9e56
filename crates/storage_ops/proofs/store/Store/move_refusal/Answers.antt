use Rattle.storage_ops.proofs.Prelude.{w32, to_z-of_z}
use Rattle.storage_ops.proofs.Held.{tree_held}
use Rattle.storage_ops.proofs.store.Store.move_refusal.Goals as goal

pub returns : goal.returns
returns g c = λ p s h.
    let back = to_z-of_z w32 c.args.amount c.ranges.amount in
    cc ((rw back at c.move_reply.ensures) s (tree_held c.self.view_is h.tree))
