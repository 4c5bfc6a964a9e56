use Rattle.live_doors.proofs.Keeps.{noted_is_clear}
use Rattle.live_doors.proofs.theorems.noted_is_clear.Goals as goal

pub returns : goal.returns
returns c = noted_is_clear
