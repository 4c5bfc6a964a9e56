use Rattle.machine.proofs.Prelude.{refl, after}
use Rattle.machine.proofs.Laws.{page_not_held, does, quiet_sound, quiet_turn}
use Rattle.machine.proofs.machine.Machine.fill_page.Goals as goal

pub fill_page-requires-clause-new : goal.fill_page-requires-clause-new
fill_page-requires-clause-new g c = page_not_held (does c.self.view_is c.self.invariant c.requires)

pub returns : goal.returns
unfolding after
returns g c = quiet_turn c.self.view_is c.requires c.fill_page.ensures refl refl (refl, refl) tt

pub invariant_of-self : goal.invariant_of-self
unfolding after
invariant_of-self g c = quiet_sound (does c.self.view_is c.self.invariant c.requires) c.fill_page.ensures refl refl refl
