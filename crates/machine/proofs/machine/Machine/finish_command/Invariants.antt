use Rattle.machine.proofs.Prelude.{◌≡◌, None, command_gauge, outline_of, HasGone}
use Rattle.machine.proofs.LoopCalls.{IsOnWay}
use Rattle.machine.proofs.machine.Machine.finish_command.Given as goal

abbrev pub invariant-loop-self : goal.invariant-loop-self
invariant-loop-self g l = record {
  gone : HasGone g.D.Drive.plan g.D.Drive.places g.D.Drive.faults l.fn.self l.self;
  free : l.self.state.owner ≡ None;
  way : IsOnWay l.fn.self.state l.self.state l.c l.since;
}

abbrev pub decreases-loop-self : goal.decreases-loop-self
decreases-loop-self g l = command_gauge (outline_of l.self.state) l.c l.since
