use Rattle.machine.proofs.Laws.{ran_grows, ran_keeps, ran_zero, run_done}
use Rattle.machine.proofs.machine.Machine.run_schedule.Goals as goal

pub returns : goal.returns
returns g c = record {
  zero = ran_zero _ _ _ c.args.self.now c.rounds.new.self c.args.cpus.now c.rounds.result c.rounds.ensures.run;
  entries = ran_grows _ _ _ c.args.self.now c.rounds.new.self c.args.cpus.now c.rounds.result
      c.rounds.ensures.run c.rounds.ensures.stood;
  kept = ran_keeps _ _ _ c.args.self.now c.rounds.new.self c.args.cpus.now c.rounds.result
      c.rounds.ensures.run c.rounds.ensures.stood;
  done = run_done c.args.self.now.state c.args.cpus.now c.rounds.result c.promise.ensures
      (ran_zero _ _ _ c.args.self.now c.rounds.new.self c.args.cpus.now c.rounds.result c.rounds.ensures.run);
  run = c.rounds.ensures.run;
  stood = c.rounds.ensures.stood;
}
