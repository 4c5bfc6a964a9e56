use Rattle.machine.proofs.Prelude.{rules, job_end, job_start}
use Rattle.machine.proofs.LoopCalls.{gone_on, gone_self, job_goes_on, stalled_on}
use Rattle.machine.proofs.machine.Machine.finish_job.Goals as goal

pub loop-owner-init : goal.loop-owner-init
loop-owner-init g c = record {
  gone = gone_self;
  goes = job_start c.args.self.now.state c.args.c c.requires.owner;
}

pub loop-owner-preserved : goal.loop-owner-preserved
loop-owner-preserved g c = assumption (
  gone_on c.loop-owner.invariant.gone c.in_ok-job_turn.ensures.gone,
  job_goes_on c.args.self.now.state c.loop-owner.self.state c.job_turn.new.self.state c.args.c c.in-Some.owner
      c.loop-owner.invariant.goes c.in-Some.ensures.some c.in_ok-job_turn.ensures.fell,
)

pub returns-clause-done : goal.returns-clause-done
returns-clause-done g c = job_end c.args.self.now.state c.loop-owner.self.state c.args.c c.in_default.ensures.none
    c.loop-owner.invariant.goes

pub returns-in_err-job_turn-clause-stalled : goal.returns-in_err-job_turn-clause-stalled
returns-in_err-job_turn-clause-stalled g c =
    let stalled = stalled_on c.loop-owner.invariant.gone c.in_err-job_turn.ensures.stalled in
    search (rules, stalled)
