use Rattle.machine.proofs.Prelude.{on_err_weaker, on_ok_weaker}
use Rattle.machine.proofs.LoopCalls.{gone_on, stalled_on, turn_free, turn_job}
use Rattle.machine.proofs.machine.Machine.command_turn.Goals as goal

pub returns-in-Some : goal.returns-in-Some
returns-in-Some g c = record {
  done = on_ok_weaker c.finish_job.result (turn_job c.in_ok-turn.ensures.turned
      c.requires.on c.requires.free c.requires.runs c.finish_job.new.self.state c.in-Some.owner c.in-Some.ensures.some)
      c.finish_job.ensures.done;
  gone = on_ok_weaker c.finish_job.result (gone_on c.in_ok-turn.ensures.gone) c.finish_job.ensures.gone;
  stalled = on_err_weaker c.finish_job.result (stalled_on c.in_ok-turn.ensures.gone) c.finish_job.ensures.stalled;
}

pub returns-in-None-clause-done : goal.returns-in-None-clause-done
returns-in-None-clause-done g c = turn_free
    c.in_ok-turn.ensures.turned c.requires.on c.requires.free c.requires.runs c.in-None.ensures.none
