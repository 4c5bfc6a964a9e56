use Rattle.machine.proofs.Prelude.{refl, after}
use Rattle.machine.proofs.Laws.{does, quiet_sound, quiet_turn}
use Rattle.machine.proofs.machine.Machine.clear.Goals as goal

pub returns : goal.returns
unfolding after
returns g c = quiet_turn c.self.view_is c.requires c.clear.ensures refl refl (refl, refl) tt

pub invariant_of-self : goal.invariant_of-self
unfolding after
invariant_of-self g c = quiet_sound (does c.self.view_is c.self.invariant c.requires) c.clear.ensures refl refl refl
