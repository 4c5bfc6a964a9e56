use Rattle.machine.proofs.Prelude.{after, next_command, process_at, refl, rules}
use Rattle.machine.proofs.Laws.{quiet_turn, stays_sound, taking_as, take_busy, takeable, takes}
use Rattle.machine.proofs.machine.Machine.take_away.Goals as goal

pub busy-process-requires : goal.busy-process-requires
busy-process-requires g c = record {
  action = _;
  does = c.requires;
  of_process = take_busy c.args.self.now.state.store (process_at c.args.self.now.state c.args.c)
      (next_command c.args.self.now.state (process_at c.args.self.now.state c.args.c));
}

pub take_away-requires : goal.take_away-requires
take_away-requires g c =
    let can = takeable (takes c.self.view_is c.self.invariant c.requires)
    c.busy-process.result (rw c.self.view_is c.busy-process.ensures) in
    search rules

pub returns : goal.returns
unfolding after
returns g c =
    let its = rw (← c.self.view_is) at c.busy-process.ensures in
    let d = takes c.self.view_is c.self.invariant c.requires in
    rw (← c.self.view_is) (quiet_turn refl d.may c.take_away.ensures (rw its) refl (refl, refl) tt)

pub invariant_of-self : goal.invariant_of-self
unfolding after
invariant_of-self g c =
    let its = rw (← c.self.view_is) at c.busy-process.ensures in
    stays_sound (takes c.self.view_is c.self.invariant c.requires) c.take_away.ensures (rw its) refl
    (taking_as c.self.inside.tables.state c.args.c c.busy-process.result
    (next_command c.self.inside.tables.state c.busy-process.result)) (assumption c.promise.ensures)
