use Rattle.machine.proofs.Prelude.{after, refl, rules}
use Rattle.machine.proofs.Laws.{does, joinable, place_is, quiet_turn, stays_sound, tables_as}
use Rattle.machine.proofs.machine.Machine.activate.Goals as goal

pub activate-place-requires : goal.activate-place-requires
activate-place-requires g c =
    let can = joinable (does c.self.view_is c.self.invariant c.requires) in
    search rules

pub returns : goal.returns
unfolding after
returns g c = quiet_turn c.self.view_is c.requires c.activate-place.ensures.effect
    (rw (place_is (does c.self.view_is c.self.invariant c.requires) c.activate-place.ensures.place)) refl (refl, refl)
    tt

pub invariant_of-self : goal.invariant_of-self
unfolding after
invariant_of-self g c =
    let d = does c.self.view_is c.self.invariant c.requires in
    stays_sound d c.activate-place.ensures.effect (rw (place_is d c.activate-place.ensures.place)) refl
    (tables_as _ _ _ refl) (assumption c.promise.ensures)
