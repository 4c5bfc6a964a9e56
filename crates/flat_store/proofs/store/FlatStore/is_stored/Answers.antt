use Rattle.flat_store.proofs.store.FlatStore.is_stored.Goals as goal

pub returns : goal.returns
returns c = λ p s h. c.is_stored.ensures p s (rw (← c.self.view_is) at h).shown.holds
