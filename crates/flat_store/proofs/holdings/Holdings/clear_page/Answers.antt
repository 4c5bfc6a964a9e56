use Rattle.flat_store.proofs.Prelude.{cleared}
use Rattle.flat_store.proofs.CutLaws.{clear_shown, clear_told}
use Rattle.flat_store.proofs.holdings.Holdings.clear_page.Goals as goal

pub invariant_of-self : goal.invariant_of-self
invariant_of-self c = let (p, s, h) = c.self.invariant in (
  p,
  cleared s c.args.uid c.args.page c.args.at,
  clear_shown c.args.uid c.args.page c.args.at h c.requires
      (λ ws e. (c.cut.ensures.some ws e).0) (λ e. (c.cut.ensures.none e).0),
)

pub returns-clause-page : goal.returns-clause-page
returns-clause-page c = λ p s h. clear_shown c.args.uid c.args.page c.args.at (rw (← c.self.view_is) at h) c.requires
    (λ ws e. (c.cut.ensures.some ws e).0) (λ e. (c.cut.ensures.none e).0)

pub returns-clause-zero : goal.returns-clause-zero
returns-clause-zero c = λ p s h.
    clear_told c.args.uid c.args.page c.args.at c.cut.result (rw (← c.self.view_is) at h) c.requires
    c.cut.ensures.some (λ e. (c.cut.ensures.none e).1)
