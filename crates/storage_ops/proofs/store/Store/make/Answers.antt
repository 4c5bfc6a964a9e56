use Rattle.storage_ops.proofs.Prelude.{rules, ℕ, List, refl, sym, ap, ◌∙◌, Node, quota_in, as_term, maker_rows, made_in, node_refuses, make_in_segment, make_refused, make_root, make_told}
use Rattle.storage_ops.proofs.Laws.{shown_held, tree_held, after_make_is}
use Rattle.storage_ops.proofs.store.Store.make.Goals as goal

pub returns-in_default-clause-answer : goal.returns-in_default-clause-answer
returns-in_default-clause-answer g c = λ p s h. make_root p s c.args.path.now c.args.volume c.args.dir
    c.in_default.ensures.root

pub returns-then-not-node-clause-answer : goal.returns-then-not-node-clause-answer
returns-then-not-node-clause-answer g c = λ p s h.
    make_in_segment p s c.self.inside.accounts.nodes c.args.path.now c.in-Some.above.now c.in-Some.name.now
    c.args.volume c.args.dir (tree_held c.self.view_is h.tree).nodes
    c.in-Some.ensures.parts (as_term (quota_in c.self.inside.accounts.nodes) c.in-Ok.node.now) c.in-Ok.ensures.ok
    c.if-not-node.true

pub returns-in-Err : goal.returns-in-Err
returns-in-Err g c = record {
  answer = λ p s h.
      make_refused p s c.self.inside.accounts.nodes c.args.path.now c.in-Some.above.now c.in-Some.name.now c.args.volume
      c.args.dir (tree_held c.self.view_is h.tree).nodes c.in-Some.ensures.parts c.in-Err.reply c.in-Err.ensures.err;
  effect = λ p s h.
      rw (node_refuses c.self.inside.accounts.nodes c.in-Some.above.now c.in-Err.reply c.in-Err.ensures.err) h;
  home = λ on.
      let clash = sym on
      ∙ node_refuses c.self.inside.accounts.nodes c.in-Some.above.now c.in-Err.reply c.in-Err.ensures.err in cc;
  rest = search rules;
}

pub returns-clause-answer : goal.returns-clause-answer
returns-clause-answer g c = λ p s h.
    let n : Node = as_term (quota_in c.self.inside.accounts.nodes) c.in-Ok.node.now in
    make_told p s c.self.inside.accounts.nodes c.args.path.now c.in-Some.above.now c.in-Some.name.now c.args.volume
    c.args.dir (shown_held c.self.view_is h).tree.nodes c.in-Some.ensures.parts n c.make_branch.result
    c.in-Ok.ensures.ok c.if-not-node.false (cc (c.make_branch.ensures.answer p s n h refl, c.copied.ensures))

pub returns-clause-effect : goal.returns-clause-effect
returns-clause-effect g c = λ p s h.
    let n : Node = as_term (quota_in c.self.inside.accounts.nodes) c.in-Ok.node.now in
    rw (← ap (λ (name : List ℕ). made_in s c.args.volume c.args.dir c.args.pages (maker_rows c.args.maker) name n)
    c.copied.ensures ∙ after_make_is s c.in-Some.above.now c.in-Some.name.now c.args.volume c.args.dir
    (shown_held c.self.view_is h).tree.nodes
    c.in-Some.ensures.parts c.args.pages (maker_rows c.args.maker) c.in-Ok.ensures.ok)
    (c.make_branch.ensures.effect p s n h refl)
