use Rattle.flat_store.proofs.Prelude.{arith, Plan, without_pages, Store, Holds}
use Rattle.flat_store.specs.contracts.holdings.Holdings.{the_view}
use Rattle.flat_store.proofs.DropLaws.{all_done}
use Rattle.flat_store.proofs.ShedLaws.{between, counted_most, none_shed, segment_shed, shed_shown}
use Rattle.flat_store.proofs.holdings.Holdings.drop_from.Goals.{After-drain_at}
use Rattle.flat_store.proofs.holdings.Holdings.drop_from.Goals as goal

pub credit-requires-clause-segment : goal.credit-requires-clause-segment
credit-requires-clause-segment c =
    segment_shed c.self.invariant.2 c.remove_between-pages.ensures (omega (arith, c.if-pages-gt0.true))

pub credit-requires-clause-stored : goal.credit-requires-clause-stored
credit-requires-clause-stored c = counted_most c.self.invariant.2 c.remove_between-pages.ensures

-- the pages are dropped
shown : (c : After-drain_at) {p : Plan} {s : Store} → Holds p (the_view c.self.inside) s
    → Holds p (record (the_view c.self.inside) {
      accounts = c.credit.new.self;
      pages = c.remove_between-pages.new.self;
      records = c.drain_at.new.gauges.items;
    }) (without_pages s c.args.uid (between c.args.from c.pages_of-end.result))
shown c h = shed_shown h c.remove_between-pages.ensures c.credit.ensures c.volume_of-volume.result
    c.volume_of-volume.ensures c.drain_at.ensures

pub invariant_of-self : goal.invariant_of-self
invariant_of-self c = let (p, s, h) = c.self.invariant in (p, _, shown c h)

pub returns-then-pages-gt0 : goal.returns-then-pages-gt0
returns-then-pages-gt0 c = λ p s h.
    let holds = rw (← c.self.view_is) at h in
    all_done c.args.uid c.args.from c.pages_of-end.result holds c.pages_of-end.ensures (shown c holds)

pub invariant_of-self-else-pages-gt0 : goal.invariant_of-self-else-pages-gt0
invariant_of-self-else-pages-gt0 c = let (p, s, h) = c.self.invariant in
    (p, _, none_shed h c.remove_between-pages.ensures (omega (arith, c.if-pages-gt0.false)))

pub returns-else-pages-gt0 : goal.returns-else-pages-gt0
returns-else-pages-gt0 c = λ p s h.
    let holds = rw (← c.self.view_is) at h in
    all_done c.args.uid c.args.from c.pages_of-end.result holds c.pages_of-end.ensures
    (none_shed holds c.remove_between-pages.ensures (omega (arith, c.if-pages-gt0.false)))
