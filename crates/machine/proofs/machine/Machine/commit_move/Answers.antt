use Rattle.machine.proofs.Prelude.{rules, after, arith, refl, ◌≤◌}
use Rattle.machine.proofs.Laws.{does, knows, still_for, ended_segment, quiet_turn, changed_sound}
use Rattle.machine.proofs.machine.Machine.commit_move.Goals as goal

pub commit_move-requires : goal.commit_move-requires
commit_move-requires g c =
    let d = does c.self.view_is c.self.invariant c.requires in
    record {
      moving = still_for d;
      done = (knows d).done;
      segment = ended_segment d;
      room =
          let room : 320 ≤ c.self.inside.tables.state.spare = rw c.self.view_is c.requires.room in
          omega arith;
      process = search rules;
    }

pub returns : goal.returns
unfolding after
returns g c = quiet_turn c.self.view_is c.requires c.commit_move.ensures.effect refl refl (refl, refl) tt

pub invariant_of-self : goal.invariant_of-self
unfolding after
invariant_of-self g c = changed_sound (does c.self.view_is c.self.invariant c.requires)
    (rw c.commit_move.ensures.effect)
    (rw c.commit_move.ensures.effect) (assumption c.promise.ensures) (c.commit_move.ensures.shown _)
