use Rattle.flat_store.proofs.store.FlatStore.room_for.Goals as goal

pub returns : goal.returns
returns c = λ p s h. c.room_for.ensures p s (rw (← c.self.view_is) at h).shown.holds
