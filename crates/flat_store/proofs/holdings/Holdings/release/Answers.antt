use Rattle.flat_store.proofs.ReleaseLaws.{released_is}
use Rattle.flat_store.proofs.holdings.Holdings.release.Goals as goal

pub returns : goal.returns
returns c = λ p s h may. rw (← released_is s c.args.uid c.args.page may) (c.drop_page.ensures p s h)
