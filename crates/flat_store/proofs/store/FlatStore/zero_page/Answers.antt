use Rattle.flat_store.proofs.store.FlatStore.zero_page.Goals as goal

pub returns-clause-some : goal.returns-clause-some
returns-clause-some c = λ p s h. c.zero_page.ensures.some p s (rw (← c.self.view_is) at h).shown.holds

pub returns-clause-none : goal.returns-clause-none
returns-clause-none c = λ p s h. c.zero_page.ensures.none p s (rw (← c.self.view_is) at h).shown.holds
