use Rattle.machine.proofs.Prelude.{after, refl}
use Rattle.machine.proofs.Laws.{may_commit, does, quiet_turn, changed_sound}
use Rattle.machine.proofs.machine.Machine.commit.Goals as goal

pub commit-requires : goal.commit-requires
commit-requires g c = may_commit (does c.self.view_is c.self.invariant c.requires) g.D.Drive.pages
    c.volumes.ensures.parts (rw c.self.view_is c.to_answer-process.ensures)

pub returns : goal.returns
unfolding after
returns g c =
    let its = rw (← c.self.view_is) at c.to_answer-process.ensures.process in
    quiet_turn c.self.view_is c.requires c.commit.ensures.effect (rw its) refl (refl, refl) tt

pub invariant_of-self : goal.invariant_of-self
unfolding after
invariant_of-self g c =
    let its = rw (← c.self.view_is) at c.to_answer-process.ensures.process in
    changed_sound (does c.self.view_is c.self.invariant c.requires) (rw (c.commit.ensures.effect, its))
    (rw c.commit.ensures.effect) (assumption c.promise.ensures) (rw its c.commit.ensures.shown)
