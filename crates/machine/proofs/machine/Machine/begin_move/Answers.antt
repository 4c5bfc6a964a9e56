use Rattle.machine.proofs.Prelude.{after, refl, rules}
use Rattle.machine.proofs.Laws.{does, movable, quiet_turn, changed_sound}
use Rattle.machine.proofs.machine.Machine.begin_move.Goals as goal

pub begin_move-requires : goal.begin_move-requires
begin_move-requires g c =
    let can = movable (does c.self.view_is c.self.invariant c.requires) in
    search rules

pub returns : goal.returns
unfolding after
returns g c = quiet_turn c.self.view_is c.requires c.begin_move.ensures.effect refl refl (refl, refl) tt

pub invariant_of-self : goal.invariant_of-self
unfolding after
invariant_of-self g c = changed_sound (does c.self.view_is c.self.invariant c.requires) (rw c.begin_move.ensures.effect)
    (rw c.begin_move.ensures.effect) (assumption c.promise.ensures) (c.begin_move.ensures.shown _)
