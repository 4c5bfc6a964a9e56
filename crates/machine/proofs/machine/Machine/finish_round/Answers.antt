use Rattle.machine.proofs.LoopCalls.{first_runs, idle_done}
use Rattle.machine.proofs.machine.Machine.finish_round.Goals as goal

pub finish_command-requires-clause-runs : goal.finish_command-requires-clause-runs
finish_command-requires-clause-runs g c = first_runs c.args.self.now.state c.in-Some.c (cc)

pub returns-in_ok-turn-in-None-clause-done : goal.returns-in_ok-turn-in-None-clause-done
returns-in_ok-turn-in-None-clause-done g c = idle_done c.args.self.now.state c.turn.new.self.state
    c.in_ok-turn-in-None.field-0 c.in_ok-turn-in-None.ensures.turned c.requires.on c.requires.free (cc) c.requires.more
