use Rattle.live_doors.proofs.Keeps.{never_bound}
use Rattle.live_doors.proofs.theorems.never_bound_has_no_holder.Goals as goal

pub returns : goal.returns
returns c = never_bound
