use Rattle.machine.proofs.Prelude.{on_ok_weaker, job_freed}
use Rattle.machine.proofs.LoopCalls.{gone_self}
use Rattle.machine.proofs.machine.Machine.settle.Goals as goal

pub returns-in-Some-clause-free : goal.returns-in-Some-clause-free
returns-in-Some-clause-free g c = on_ok_weaker c.finish_job.result
    (job_freed c.args.self.now.state c.finish_job.new.self.state c.in-Some.owner) c.finish_job.ensures.done

pub returns-in-None-clause-gone : goal.returns-in-None-clause-gone
returns-in-None-clause-gone g c = gone_self
