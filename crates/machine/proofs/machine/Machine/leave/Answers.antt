use Rattle.machine.proofs.Prelude.{refl, after}
use Rattle.machine.proofs.Laws.{ready_room, run_there, does, quiet_sound, quiet_turn}
use Rattle.machine.proofs.machine.Machine.leave.Goals as goal

pub leave-requires-clause-run : goal.leave-requires-clause-run
leave-requires-clause-run g c = run_there c.self.invariant c.args.c
    {k = c.busy-process.result} (rw c.self.view_is c.busy-process.ensures)

pub leave-requires-clause-ready : goal.leave-requires-clause-ready
leave-requires-clause-ready g c = ready_room c.self.invariant c.args.c
    {k = c.busy-process.result} (rw c.self.view_is c.busy-process.ensures)

pub returns : goal.returns
unfolding after
returns g c = quiet_turn c.self.view_is c.requires c.leave.ensures refl refl (refl, refl) tt

pub invariant_of-self : goal.invariant_of-self
unfolding after
invariant_of-self g c = quiet_sound (does c.self.view_is c.self.invariant c.requires) c.leave.ensures refl refl refl
