use Rattle.machine.proofs.Laws.{still_tells, visited_parts}
use Rattle.machine.proofs.machine.Machine.shutdown_step.Goals as goal

pub returns-else-has_frames-clause-faults : goal.returns-else-has_frames-clause-faults
returns-else-has_frames-clause-faults g c = still_tells g.D.Drive.faults c.args.self.now

pub returns-then-has_frames-clause-kept : goal.returns-then-has_frames-clause-kept
returns-then-has_frames-clause-kept g c = visited_parts g.D.Drive.faults c.visit.ensures.done c.visit.ensures.faults
