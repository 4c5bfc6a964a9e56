use Rattle.flat_store.proofs.Prelude.{Plan, without_node, Store, Holds}
use Rattle.flat_store.specs.contracts.holdings.Holdings.{the_view}
use Rattle.flat_store.proofs.RemoveLaws.{no_count, removed_shown}
use Rattle.flat_store.proofs.holdings.Holdings.take_out.Goals.{After-drain_at}
use Rattle.flat_store.proofs.holdings.Holdings.take_out.Goals as goal

pub remove-requires-clause-stored : goal.remove-requires-clause-stored
remove-requires-clause-stored c = no_count c.args.uid c.self.invariant.2 (rw (← c.self.view_is) at c.requires.pages)

-- the node is taken out
shown : (c : After-drain_at) {p : Plan} {s : Store} → Holds p (the_view c.self.inside) s
    → Holds p (record (the_view c.self.inside) {
      accounts = c.remove.new.self;
      entries = c.drain_at.new.gauges.items;
    }) (record s { nodes = without_node s.nodes c.args.uid })
shown c h =
    let asked = rw (← c.self.view_is) at c.requires in
    removed_shown c.args.uid c.volume_of-volume.result h c.remove.ensures c.drain_at.ensures
    c.volume_of-volume.ensures c.promise.ensures.tree asked.there asked.pages

pub invariant_of-self : goal.invariant_of-self
invariant_of-self c = let (p, s, h) = c.self.invariant in (p, _, shown c h)

pub returns : goal.returns
returns c = λ p s h. shown c (rw (← c.self.view_is) at h)
