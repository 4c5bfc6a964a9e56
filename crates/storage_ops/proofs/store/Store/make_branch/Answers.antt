use Rattle.storage_ops.proofs.Prelude.{rules, true, false, is_some, refl, sym, ap, ◌∙◌, branch_of, as_node, unless_none, Node, Plain, plain, branch_made}
use Rattle.storage_ops.proofs.Laws.{shown_held, HasNewHome, shown_new, store_new, all_used, length_inside, made_told, some_free}
use Rattle.storage_ops.proofs.store.Store.make_branch.Goals.{After-attach}
use Rattle.storage_ops.proofs.store.Store.make_branch.Goals as goal

pub attach-requires-clause-may : goal.attach-requires-clause-may
attach-requires-clause-may g c = unless_none _ _ _ (sym c.may_add.ensures ∙ c.in-Ok.is)

pub returns-in_default-clause-answer : goal.returns-in_default-clause-answer
returns-in_default-clause-answer g c = λ p s d h below.
    let shown = shown_held c.self.view_is h in
    made_told p s c.args.new.volume c.args.new.dir c.args.new.name d c.self.inside.accounts.nodes c.args.superior
    c.self.inside.accounts.next
    c.may_add.result true shown.tree.nodes shown.tree.next below c.may_add.ensures (sym c.in-Ok.is)
    (all_used c.self.inside.segs.pages.volumes.vtocs c.args.new.volume _ _ c.in_default.ensures.none
    (shown.script.entries c.args.new.volume) (cc (shown.tree.nodes, c.self.invariant.taken.entries c.args.new.volume)))

pub new_home-requires-clause-inactive : goal.new_home-requires-clause-inactive
new_home-requires-clause-inactive g c = record {
  nowhere = λ place e. (let clash = sym (c.self.invariant.active.there place c.self.inside.accounts.next
      (cc)) ∙ ap is_some c.next_uid-uid.ensures.fresh in cc);
}

-- the node that is made, and its home
abbrev node : (g : _) (c : After-attach g) → Node
node g c = branch_of c.self.inside.accounts.next c.args.superior
    (as_node (record c.args.new { entry = c.in-Some.entry }))

made : (g : _) (c : After-attach g) → HasNewHome c.self.inside.accounts c.attach.new.self (node g c)
    c.in-Some.entry (plain g.D.Drive.pages c.self.inside.segs.pages) (plain g.D.Drive.pages c.new_home.new.self.pages)
made g c = record {
  gains = c.attach.ensures.effect;
  fresh = c.next_uid-uid.ensures.fresh;
  home = cc (c.in-Some.ensures.home, c.next_uid-uid.ensures.uid);
  least = c.in-Some.ensures.least;
  uids = c.in-Some.ensures.uids;
  maps = c.new_home.ensures.maps;
  flags = ap (λ (x : Plain). x.records) c.in-Some.ensures.effect;
  count = c.in-Some.ensures.used;
}

pub invariant_of-self-2 : goal.invariant_of-self-2
invariant_of-self-2 g c = rw (c.new_home.ensures.ast, c.new_home.ensures.links)
    (store_new (made g c) c.requires.most c.requires.flat c.self.invariant)

pub returns : goal.returns
returns g c = record {
  answer = λ p s d h below.
      let shown = shown_held c.self.view_is h in
      cc (made_told p s c.args.new.volume c.args.new.dir c.args.new.name d c.self.inside.accounts.nodes c.args.superior
      c.self.inside.accounts.next c.may_add.result false shown.tree.nodes shown.tree.next below c.may_add.ensures
      (sym c.in-Ok.is) (some_free c.self.inside.segs.pages.volumes.vtocs c.args.new.volume c.in-Some.ensures.least
      (shown.script.entries c.args.new.volume) (cc (c.self.invariant.taken.entries c.args.new.volume))));
  effect = λ p s d h below.
      let shown = shown_held c.self.view_is h in
      rw (← branch_made s d c.self.inside.accounts.next c.args.superior shown.tree.next below) (shown_new (made g c)
      c.new_home.ensures.links refl c.new_home.ensures.words
      (λ v. length_inside c.self.inside.segs.pages.volumes.vtocs c.args.new.volume c.in-Some.entry v _
      (ap (λ (x : Plain). x.vtocs) c.in-Some.ensures.effect)) c.look.ensures.kept
      (λ place e. (let clash = sym (c.self.invariant.active.there place c.self.inside.accounts.next e)
      ∙ ap is_some c.next_uid-uid.ensures.fresh in cc)) shown);
  home = λ on.
      rw (← c.self.view_is) (record {
        entry = c.in-Some.entry;
        least = sym c.in-Some.ensures.least;
        filed = cc (c.in-Some.ensures.effect, c.next_uid-uid.ensures.uid);
        beside = c.attach.ensures.effect.entries;
      });
  rest = search rules;
}
