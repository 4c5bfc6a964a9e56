use Rattle.volumes.proofs.CorePages.{full_pages, length_pages, sym}
use Rattle.volumes.proofs.core_pages.CorePages.size.Goals as goal

pub returns-clause-size : goal.returns-clause-size
returns-clause-size c = rw (← c.self.view_is) (sym (length_pages c.self.invariant))

pub returns-clause-full : goal.returns-clause-full
returns-clause-full c = rw (← c.self.view_is) (full_pages c.self.invariant)
