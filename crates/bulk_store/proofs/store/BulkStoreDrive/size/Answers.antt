use Rattle.bulk_store.proofs.Stores.{length-pages_of, pages_full, sym, ◌∙◌}
use Rattle.bulk_store.proofs.store.BulkStoreDrive.size.Goals as goal

pub returns-clause-size : goal.returns-clause-size
returns-clause-size g c = rw (← c.self.view_is) (c.size.ensures.size ∙ sym (length-pages_of _ _ _))

pub returns-clause-full : goal.returns-clause-full
returns-clause-full g c = rw (← c.self.view_is) (pages_full c.self.invariant.0 c.self.invariant.3 c.self.invariant.4)
