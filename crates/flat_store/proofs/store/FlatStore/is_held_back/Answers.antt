use Rattle.flat_store.proofs.Prelude.{refl, is_held_back}
use Rattle.flat_store.proofs.store.FlatStore.is_held_back.Goals as goal

pub returns-in-Some : goal.returns-in-Some
unfolding is_held_back
returns-in-Some c = λ s h. rw (← c.reference.ensures, c.in-Some.is) (c.is_held_by.ensures s h)

pub returns-in-None : goal.returns-in-None
unfolding is_held_back
returns-in-None c = λ s h. rw (← c.reference.ensures, c.in-None.is) refl
