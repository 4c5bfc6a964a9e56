use Rattle.storage_ops.proofs.Prelude.{rules, plain}
use Rattle.storage_ops.proofs.Laws.{held, shown_held, may_activate, shown_next, store_next, all_drives}
use Rattle.storage_ops.proofs.store.Store.activate_next.Goals as goal

pub activate_next-requires-clause-chain : goal.activate_next-requires-clause-chain
activate_next-requires-clause-chain g c =
    let t = held c.self.view_is in
    let off = rw (← c.self.view_is) at c.requires.off in
    may_activate (plain g.D.Drive.pages t.segs.pages) t.segs.ast t.segs.links t.accounts t.whos c.args.chain.now
    c.self.invariant c.promise.ensures.tree (rw (← c.self.view_is) at c.requires.chain)
    (all_drives g.D.Drive.pages t.segs.pages.volumes c.look.ensures.parts) off

pub returns : goal.returns
returns g c = record {
  next = rw (← c.self.view_is) c.activate_next.ensures.next;
  victim = rw (← c.self.view_is) c.activate_next.ensures.victim;
  shown = λ p s h.
      shown_next g.D.Drive.pages p s (held c.self.view_is) c.activate_next.new.self c.args.chain.now
      c.activate_next.result c.activate_next.ensures.next (shown_held c.self.view_is h);
  rest = search rules;
}

pub invariant_of-self : goal.invariant_of-self
invariant_of-self g c =
    let t = held c.self.view_is in
    store_next g.D.Drive.pages t.segs c.activate_next.new.self t.accounts t.whos c.args.chain.now
    c.activate_next.result c.activate_next.ensures.next c.promise.ensures.tree
    (rw (← c.self.view_is) at c.requires.chain) c.look.ensures.kept.linked c.self.invariant
