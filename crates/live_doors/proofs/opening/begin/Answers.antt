use Rattle.live_doors.proofs.Calls.{opened, rules}
use Rattle.live_doors.proofs.opening.begin.Goals as goal

pub returns : goal.returns
returns c = opened (search rules) (search rules) (search rules) (search rules)
