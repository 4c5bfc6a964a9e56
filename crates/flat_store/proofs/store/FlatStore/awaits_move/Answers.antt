use Rattle.std.proofs.lemmas.Grind.{common_steps}
use Rattle.flat_store.proofs.Prelude.{arith, nat_tests, ◌≡◌, refl, sym, awaits_move, Store, progress_of, IsShown}
use Rattle.flat_store.proofs.store.FlatStore.awaits_move.Goals.{After-place_of-place}
use Rattle.flat_store.proofs.store.FlatStore.awaits_move.Goals as goal

-- the place of the process, as the flat store has it
place : (c : After-place_of-place) (s : Store) → IsShown c.args.script.now c.args.self.now s
    → (progress_of s c.args.process).place ≡ c.place_of-place.result
place c s h = rw (h.processes, ← c.self.view_is, ← c.deref.ensures.value) (sym c.place_of-place.ensures)

pub returns-in_default : goal.returns-in_default
unfolding awaits_move
returns-in_default c = λ s h.
    rw (place (goal.at.returns-in_default c).After-place_of-place s h, c.in_default.ensures.none) refl

pub returns-in-Some-reference : goal.returns-in-Some-reference
unfolding awaits_move
returns-in-Some-reference c = grind (arith, nat_tests, common_steps, place)

pub returns-in-None : goal.returns-in-None
unfolding awaits_move
returns-in-None c = grind (arith, nat_tests, common_steps, place)
