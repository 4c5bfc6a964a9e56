use Rattle.flat_store.proofs.Prelude.{eqb, sym, ◌∙◌, arith, Plan, without_pages, Store, Holds}
use Rattle.flat_store.specs.contracts.holdings.Holdings.{the_view}
use Rattle.flat_store.proofs.DropLaws.{missing}
use Rattle.flat_store.proofs.ShedLaws.{counted_most, page_sheds, segment_shed, shed_shown}
use Rattle.flat_store.proofs.holdings.Holdings.drop_page.Goals.{After-drain_at}
use Rattle.flat_store.proofs.holdings.Holdings.drop_page.Goals as goal

pub credit-requires-clause-segment : goal.credit-requires-clause-segment
credit-requires-clause-segment c = segment_shed c.self.invariant.2
    (page_sheds c.remove.ensures (sym c.has.ensures ∙ c.if-has.true)) (omega arith)

pub credit-requires-clause-stored : goal.credit-requires-clause-stored
credit-requires-clause-stored c =
    counted_most c.self.invariant.2 (page_sheds c.remove.ensures (sym c.has.ensures ∙ c.if-has.true))

-- the page is dropped
shown : (c : After-drain_at) {p : Plan} {s : Store} → Holds p (the_view c.self.inside) s
    → Holds p (record (the_view c.self.inside) {
      accounts = c.credit.new.self;
      pages = c.remove.new.self;
      records = c.drain_at.new.gauges.items;
    }) (without_pages s c.args.uid (λ q. eqb q c.args.page))
shown c h = shed_shown h (page_sheds c.remove.ensures (sym c.has.ensures ∙ c.if-has.true)) c.credit.ensures
    c.volume_of-volume.result c.volume_of-volume.ensures c.drain_at.ensures

pub invariant_of-self : goal.invariant_of-self
invariant_of-self c = let (p, s, h) = c.self.invariant in (p, _, shown c h)

pub returns-then-has : goal.returns-then-has
returns-then-has c = λ p s h. shown c (rw (← c.self.view_is) at h)

pub returns-else-has : goal.returns-else-has
returns-else-has c = λ p s h. missing c.args.uid c.args.page h (rw (← c.self.view_is, ← c.has.ensures) c.if-has.false)
