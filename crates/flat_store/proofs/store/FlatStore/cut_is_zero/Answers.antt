use Rattle.flat_store.proofs.store.FlatStore.cut_is_zero.Goals as goal

pub returns : goal.returns
returns c = λ p s h. c.cut_is_zero.ensures p s (rw (← c.self.view_is) at h).shown.holds
