use Rattle.flat_store.proofs.ReleaseLaws.{may_release, not_there}
use Rattle.flat_store.proofs.holdings.Holdings.may_release.Goals as goal

pub returns-in-Some : goal.returns-in-Some
returns-in-Some c = λ p s h.
    may_release c.args.uid c.args.page c.is_zero.result (rw (← c.self.view_is) at h) c.in-Some.ensures.some
    c.is_zero.ensures.zero

pub returns-in-None : goal.returns-in-None
returns-in-None c = λ p s h. not_there c.args.uid c.args.page (rw (← c.self.view_is) at h) c.in-None.ensures.none
