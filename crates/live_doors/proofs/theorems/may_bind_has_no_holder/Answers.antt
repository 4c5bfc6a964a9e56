use Rattle.live_doors.proofs.Keeps.{may_bind_is_free}
use Rattle.live_doors.proofs.theorems.may_bind_has_no_holder.Goals as goal

pub returns : goal.returns
returns c = may_bind_is_free
