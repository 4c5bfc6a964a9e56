use Rattle.volumes.proofs.CorePages.{new_full, new_pages}
use Rattle.volumes.proofs.core_pages.CorePages.new.Goals as goal

pub returns-clause-zeros : goal.returns-clause-zeros
returns-clause-zeros c = new_pages c.args.size c.in_ok-written.ensures.items

pub returns-clause-full : goal.returns-clause-full
returns-clause-full c = new_full c.args.size c.in_ok-written.ensures.items
