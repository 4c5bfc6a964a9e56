use Rattle.storage_ops.proofs.Prelude.{rules, true, false, refl, sym, ap, ◌∙◌, Node, quota_in, as_term, Storage, is_filed, segment_refuses, length_refused}
use Rattle.storage_ops.proofs.Laws.{held, shown_held, tree_held, length_answered, length_shown, length_store}
use Rattle.storage_ops.proofs.store.Store.set_length.Goals as goal

pub returns-in-Err : goal.returns-in-Err
returns-in-Err g c = record {
  answer = λ p s h.
      length_refused s c.self.inside.accounts.nodes c.args.path.now (tree_held c.self.view_is h.tree).nodes c.args.pages
      c.in-Err.reply c.in-Err.ensures.err;
  effect = λ p s h.
      rw (segment_refuses c.self.inside.accounts.nodes c.args.path.now c.in-Err.reply c.in-Err.ensures.err) h;
  done = λ on.
      let clash = sym on ∙ segment_refuses c.self.inside.accounts.nodes c.args.path.now c.in-Err.reply
      c.in-Err.ensures.err in cc;
  refused = search rules;
  rest = search rules;
}

pub returns-then-stores_from-clause-answer : goal.returns-then-stores_from-clause-answer
returns-then-stores_from-clause-answer g c = λ p s h.
    length_answered c.self.view_is g.D.Drive.pages p s h c.args.path.now c.args.pages
    (as_term (quota_in c.self.inside.accounts.nodes) c.in-Ok.node.now) true c.stores_from.result c.in-Ok.ensures.ok
    (c.stores_from.ensures.answer p s h) c.if-stores_from.true

pub returns : goal.returns
returns g c = record {
  answer = λ p s h. length_answered c.self.view_is g.D.Drive.pages p s h c.args.path.now c.args.pages
      (as_term (quota_in c.self.inside.accounts.nodes) c.in-Ok.node.now) false c.stores_from.result c.in-Ok.ensures.ok
      (c.stores_from.ensures.answer p s h) c.if-stores_from.false;
  effect = λ p s h.
      let t = held c.self.view_is in
      length_shown c.in-Ok.node.now.uid c.args.pages c.in-Ok.ensures.segment c.set_length.ensures c.args.path.now refl
      c.in-Ok.ensures.ok refl (shown_held c.self.view_is h);
  done = λ on. rw (← c.self.view_is) (record {
    node = as_term (quota_in c.self.inside.accounts.nodes) c.in-Ok.node.now;
    found = c.in-Ok.ensures.ok;
    effect = c.set_length.ensures;
  });
  refused = search rules;
  rest = search rules;
}

pub invariant_of-self : goal.invariant_of-self
invariant_of-self g c =
    let n : Node = as_term (quota_in c.self.inside.accounts.nodes) c.in-Ok.node.now in
    length_store c.in-Ok.node.now.uid c.args.pages c.in-Ok.ensures.segment c.set_length.ensures
    c.in-Ok.ensures.there c.requires.most ((rw (← c.self.view_is) at c.requires.inactive) n c.in-Ok.ensures.ok) (λ q on.
    c.stores_from.ensures.none c.if-stores_from.false q
    (ap (λ (x : Storage g.row.D.Denot). is_filed x.accounts x.segs.pages.volumes.vtocs c.in-Ok.node.now.uid q)
    (sym c.self.view_is) ∙ on)) c.self.invariant
