use Rattle.live_pages.proofs.Ends.{all_in_is_legal}
use Rattle.live_pages.proofs.theorems.all_in_is_legal.Goals as goal

pub returns : goal.returns
returns c = all_in_is_legal
