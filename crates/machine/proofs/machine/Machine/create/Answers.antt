use Rattle.machine.proofs.Prelude.{after, refl}
use Rattle.machine.proofs.Laws.{made_known, made_page, makeable, does, still_for, quiet_turn, changed_sound}
use Rattle.machine.proofs.machine.Machine.create.Goals as goal

pub create-requires-clause-still : goal.create-requires-clause-still
create-requires-clause-still g c = still_for (does c.self.view_is c.self.invariant c.requires)

pub create-requires-clause-makeable : goal.create-requires-clause-makeable
create-requires-clause-makeable g c = makeable (does c.self.view_is c.self.invariant c.requires)
    c.to_answer-process.result (rw c.self.view_is c.to_answer-process.ensures.process)

pub create-requires-clause-known : goal.create-requires-clause-known
create-requires-clause-known g c = made_known (does c.self.view_is c.self.invariant c.requires)
    c.to_answer-process.result (rw c.self.view_is c.to_answer-process.ensures.process)

pub create-requires-clause-page : goal.create-requires-clause-page
create-requires-clause-page g c = made_page (does c.self.view_is c.self.invariant c.requires)

pub returns : goal.returns
unfolding after
returns g c = quiet_turn c.self.view_is c.requires c.create.ensures.effect refl refl (refl, refl) tt

pub invariant_of-self : goal.invariant_of-self
unfolding after
invariant_of-self g c =
    let its = rw (← c.self.view_is) at c.to_answer-process.ensures.process in
    changed_sound (does c.self.view_is c.self.invariant c.requires) (rw c.create.ensures.effect)
    (rw c.create.ensures.effect) (assumption c.promise.ensures) (rw its c.create.ensures.shown)
