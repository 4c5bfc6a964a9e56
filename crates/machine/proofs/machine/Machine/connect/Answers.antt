use Rattle.machine.proofs.Prelude.{after, refl, rules}
use Rattle.machine.proofs.Laws.{does, connectable, quiet_turn, stays_sound, tables_as}
use Rattle.machine.proofs.machine.Machine.connect.Goals as goal

pub connect-requires : goal.connect-requires
connect-requires g c =
    let can = connectable (does c.self.view_is c.self.invariant c.requires) c.busy-process.result
    (rw c.self.view_is c.busy-process.ensures) in
    search rules

pub returns : goal.returns
unfolding after
returns g c = quiet_turn c.self.view_is c.requires c.connect.ensures refl refl (refl, refl) tt

pub invariant_of-self : goal.invariant_of-self
unfolding after
invariant_of-self g c = stays_sound (does c.self.view_is c.self.invariant c.requires) c.connect.ensures refl refl
    (tables_as _ _ _ refl) (assumption c.promise.ensures)
