use Rattle.flat_store.proofs.Prelude.{Plan, moved, Store, Holds}
use Rattle.flat_store.specs.contracts.holdings.Holdings.{the_view}
use Rattle.flat_store.proofs.MoveLaws.{moved_held}
use Rattle.flat_store.proofs.holdings.Holdings.take_home.Goals.{After-shift-2}
use Rattle.flat_store.proofs.holdings.Holdings.take_home.Goals as goal

-- the segment moved
shown : (c : After-shift-2) {p : Plan} {s : Store} → Holds p (the_view c.self.inside) s
    → Holds p (record (the_view c.self.inside) {
      accounts = c.set_home.new.self;
      records = c.shift.new.gauges.items;
      entries = c.shift-2.new.gauges.items;
    }) (moved s c.args.uid c.args.volume)
shown c h =
    let asked = rw (← c.self.view_is) at c.requires in
    moved_held c.args.uid c.args.own c.args.pages c.args.volume h c.promise.ensures.tree asked.segment asked.own
    asked.pages asked.roomy c.set_home.ensures.home c.shift.ensures c.shift-2.ensures

pub invariant_of-self : goal.invariant_of-self
invariant_of-self c = let (p, s, h) = c.self.invariant in (p, _, shown c h)

pub returns : goal.returns
returns c = λ p s h. shown c (rw (← c.self.view_is) at h)
