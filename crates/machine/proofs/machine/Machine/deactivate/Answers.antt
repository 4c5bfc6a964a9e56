use Rattle.machine.proofs.Prelude.{after, arith, refl, ◌≤◌}
use Rattle.machine.proofs.Laws.{does, still_for, inactive_emptied, inactive_owner, quiet_turn, stays_sound, emptied_as}
use Rattle.machine.proofs.machine.Machine.deactivate.Goals as goal

pub deactivate-requires : goal.deactivate-requires
deactivate-requires g c =
    let d = does c.self.view_is c.self.invariant c.requires in
    record {
      still = still_for d;
      owner = inactive_owner d;
      empty = inactive_emptied d;
      room = let few = c.self.invariant.keeps.working.few in
          let room : 320 ≤ c.self.inside.tables.state.spare = rw c.self.view_is c.requires.room in
          omega arith;
    }

pub returns : goal.returns
unfolding after
returns g c = quiet_turn c.self.view_is c.requires c.deactivate.ensures refl refl (refl, refl) tt

pub invariant_of-self : goal.invariant_of-self
unfolding after
invariant_of-self g c = stays_sound (does c.self.view_is c.self.invariant c.requires) c.deactivate.ensures refl refl
    (emptied_as c.self.inside.tables.state c.args.c c.args.uid) (assumption c.promise.ensures)
