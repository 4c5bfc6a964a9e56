use Rattle.machine.proofs.Prelude.{Goes, job_rank, outline_of, HasGone}
use Rattle.machine.proofs.machine.Machine.finish_job.Given as goal

abbrev pub invariant-loop-owner : goal.invariant-loop-owner
invariant-loop-owner g l = record {
  gone : HasGone g.D.Drive.plan g.D.Drive.places g.D.Drive.faults l.fn.self l.self;
  goes : Goes (outline_of l.fn.self.state) (outline_of l.self.state) l.c;
}

abbrev pub decreases-loop-owner : goal.decreases-loop-owner
decreases-loop-owner g l = job_rank (outline_of l.self.state)
