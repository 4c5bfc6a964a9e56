use Rattle.flat_store.proofs.PagedLaws.{put_new}
use Rattle.flat_store.proofs.pages.Pages.add.Goals as goal

pub returns-in-Ok-clause-ok : goal.returns-in-Ok-clause-ok
returns-in-Ok-clause-ok c = put_new c.args.at c.args.word c.self.view_is c.in_ok-words.ensures.zeros
    c.set.ensures.word c.in-Ok.ensures.updates.0
