use Rattle.machine.proofs.Prelude.{◌≡◌, ◌≤◌, take, HasRun}
use Rattle.machine.proofs.machine.Machine.rounds.Given as goal

abbrev pub invariant-loop-c : goal.invariant-loop-c
invariant-loop-c g l = record {
  run : HasRun g.D.Drive.plan g.D.Drive.places g.D.Drive.faults l.fn.self l.self (take l.c-index l.cpus) l.moved;
  few : l.moved ≤ l.c-index;
  plan : l.self.state.plan ≡ l.fn.self.state.plan;
}
