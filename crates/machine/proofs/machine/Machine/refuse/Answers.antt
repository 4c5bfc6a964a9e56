use Rattle.machine.proofs.Prelude.{refl, after, None, Parts, ap, with_owner, with_state, ◌∙◌}
use Rattle.machine.proofs.Laws.{does, quiet_turn, quiet_sound}
use Rattle.machine.proofs.machine.Machine.refuse.Goals as goal

pub returns : goal.returns
unfolding after
returns g c =
    let done = c.give_up.ensures ∙ ap (λ (x : Parts _). with_state x (with_owner x.state None)) c.tell.ensures in
    quiet_turn c.self.view_is c.requires done (rw (rw (← c.self.view_is) at c.to_answer-process.ensures.process)) refl
    (refl, refl) tt

pub invariant_of-self : goal.invariant_of-self
unfolding after
invariant_of-self g c =
    let done = c.give_up.ensures ∙ ap (λ (x : Parts _). with_state x (with_owner x.state None)) c.tell.ensures in
    quiet_sound (does c.self.view_is c.self.invariant c.requires) done
    (rw (rw (← c.self.view_is) at c.to_answer-process.ensures.process)) refl refl
