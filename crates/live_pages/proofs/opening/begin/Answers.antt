use Rattle.live_pages.proofs.Calls.{opened, rules}
use Rattle.live_pages.proofs.opening.begin.Goals as goal

pub returns : goal.returns
returns c = opened (search rules) (search rules) (search rules) (search rules)
