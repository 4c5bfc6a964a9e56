use Rattle.live_pages.proofs.Ends.{entry_names_current}
use Rattle.live_pages.proofs.theorems.entry_is_current.Goals as goal

pub returns : goal.returns
returns c = entry_names_current
