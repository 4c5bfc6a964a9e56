use Rattle.flat_store.proofs.ZeroPages.{zero_decides}
use Rattle.flat_store.proofs.store.FlatStore.has_zero_page.Goals as goal

pub returns : goal.returns
returns c = λ p s h. rw c.is_some.ensures
    (zero_decides s c.zero_page.result (c.zero_page.ensures.some p s h) (c.zero_page.ensures.none p s h))
