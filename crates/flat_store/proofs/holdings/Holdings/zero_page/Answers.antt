use Rattle.flat_store.proofs.ZeroPages.{kept_zero_told, no_zero_told}
use Rattle.flat_store.proofs.holdings.Holdings.zero_page.Goals as goal

pub returns-clause-some : goal.returns-clause-some
returns-clause-some c = λ p s holds. kept_zero_told c.zero_page.result c.self.view_is holds c.zero_page.ensures.some

pub returns-clause-none : goal.returns-clause-none
returns-clause-none c = λ p s holds. no_zero_told c.zero_page.result c.self.view_is holds c.zero_page.ensures.none
