use Rattle.machine.proofs.Prelude.{after, refl, rules}
use Rattle.machine.proofs.Laws.{does, emptiable, quiet_turn, stays_sound, begun_as}
use Rattle.machine.proofs.machine.Machine.empty.Goals as goal

pub empty-requires : goal.empty-requires
empty-requires g c =
    let can = emptiable (does c.self.view_is c.self.invariant c.requires) in
    search rules

pub returns : goal.returns
unfolding after
returns g c = quiet_turn c.self.view_is c.requires c.empty.ensures refl refl (refl, refl) tt

pub invariant_of-self : goal.invariant_of-self
unfolding after
invariant_of-self g c = stays_sound (does c.self.view_is c.self.invariant c.requires) c.empty.ensures refl refl
    (begun_as c.self.inside.tables.state c.args.c c.args.uid) (assumption c.promise.ensures)
