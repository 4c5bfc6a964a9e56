use Rattle.flat_store.proofs.Prelude.{page_at}
use Rattle.flat_store.proofs.PagedLaws.{got}
use Rattle.flat_store.proofs.pages.Pages.get.Goals as goal

pub returns-clause-some : goal.returns-clause-some
returns-clause-some c = got c.get.result (page_at c.args.self.now c.args.uid c.args.page)
    (cc (c.get.ensures.value, c.self.view_is))
