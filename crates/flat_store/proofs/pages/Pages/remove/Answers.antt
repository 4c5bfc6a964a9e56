use Rattle.flat_store.proofs.PagedLaws.{puts_from}
use Rattle.flat_store.proofs.pages.Pages.remove.Goals as goal

pub returns : goal.returns
returns c = puts_from c.self.view_is c.remove.ensures.updates.0
