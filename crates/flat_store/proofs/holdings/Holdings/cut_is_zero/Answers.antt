use Rattle.flat_store.proofs.ReleaseLaws.{cut_absent, cut_told}
use Rattle.flat_store.proofs.holdings.Holdings.cut_is_zero.Goals as goal

pub returns-in-Some : goal.returns-in-Some
returns-in-Some c = λ p s h.
    cut_told c.args.uid c.args.words c.is_zero_below.result (rw (← c.self.view_is) at h) c.in-Some.ensures.some
    c.is_zero_below.ensures

pub returns-in-None : goal.returns-in-None
returns-in-None c = λ p s h. cut_absent c.args.uid c.args.words (rw (← c.self.view_is) at h) c.in-None.ensures.none
