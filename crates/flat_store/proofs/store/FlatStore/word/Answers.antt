use Rattle.flat_store.proofs.store.FlatStore.word.Goals as goal

pub returns : goal.returns
returns c = λ p s h. c.word.ensures p s (rw (← c.self.view_is) at h).shown.holds
