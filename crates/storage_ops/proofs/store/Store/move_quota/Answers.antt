use Rattle.storage_ops.proofs.Prelude.{w32, to_z-of_z}
use Rattle.storage_ops.proofs.Laws.{held, shown_held, move_shown, move_store}
use Rattle.storage_ops.proofs.store.Store.move_quota.Goals as goal

pub invariant_of-self : goal.invariant_of-self
invariant_of-self g c =
    move_store c.move_quota.result c.self.invariant (rw (to_z-of_z w32 c.args.amount c.ranges.amount) at
    c.move_quota.ensures.done) c.move_quota.ensures.refused

pub returns-clause-effect : goal.returns-clause-effect
returns-clause-effect g c = λ p s h.
    let before = held c.self.view_is in
    move_shown c.move_quota.result (shown_held c.self.view_is h) (rw (to_z-of_z w32 c.args.amount c.ranges.amount) at
    c.move_quota.ensures.done) c.move_quota.ensures.refused
