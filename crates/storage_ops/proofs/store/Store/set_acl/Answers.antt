use Rattle.storage_ops.proofs.Laws.{held, shown_held, acl_shown, acl_store}
use Rattle.storage_ops.proofs.store.Store.set_acl.Goals as goal

pub invariant_of-self : goal.invariant_of-self
invariant_of-self g c =
    acl_store c.set_row.result (rw (← c.self.view_is) at c.requires) c.self.invariant c.set_row.ensures.done
    c.set_row.ensures.refused

pub returns-clause-effect : goal.returns-clause-effect
returns-clause-effect g c = λ p s h.
    let before = held c.self.view_is in
    acl_shown c.args.row.now c.args.mode c.set_row.result
    (shown_held c.self.view_is h) c.set_row.ensures.done c.set_row.ensures.refused
