use Rattle.storage_ops.proofs.Prelude.{rules, refl, ap, ◌∙◌, Plain, plain, Storage, Home, erased}
use Rattle.storage_ops.proofs.Laws.{held, home_held, shown_held, there_held, found_there, removed_done, shown_removed, store_removed, rest_erased}
use Rattle.storage_ops.proofs.store.Store.remove.Goals as goal

pub invariant_of-self : goal.invariant_of-self
invariant_of-self g c =
    let there = there_held c.self.view_is c.args.uid c.requires.there in
    let inactive = rw (← c.self.view_is) at c.requires.inactive in
    let found = found_there c.self.inside.accounts.nodes c.args.uid there in
    let done = removed_done (home_held c.self.view_is c.args.uid c.home-home.ensures.home) there c.uncount.ensures
    c.remove.ensures c.erase.ensures.effect c.erase.ensures.home
    c.erase.ensures.uids c.erase.ensures.maps c.erase.ensures.words c.erase.ensures.used c.erase.ensures.taken in
    rw c.erase.ensures.ast (rw c.erase.ensures.links
    (store_removed done c.self.invariant.housed c.promise.ensures.tree found.1 inactive c.self.invariant))

pub returns : goal.returns
returns g c = record {
  rest =
      rw (← c.self.view_is) (rest_erased g.D.Drive.pages c.home-home.result c.erase.ensures.effect c.erase.ensures.ast
      c.erase.ensures.links c.erase.ensures.moving refl c.erase.ensures.drives);
  shown = λ p s h.
      let home = home_held c.self.view_is c.args.uid c.home-home.ensures.home in
      let t = held c.self.view_is in
      let n = record t { accounts = c.remove.new.self; segs = c.erase.new.self } in
      let done = removed_done home (there_held c.self.view_is c.args.uid c.requires.there) c.uncount.ensures
      c.remove.ensures c.erase.ensures.effect c.erase.ensures.home
      c.erase.ensures.uids c.erase.ensures.maps c.erase.ensures.words c.erase.ensures.used c.erase.ensures.taken in
      shown_removed g.D.Drive.pages p s t n c.uncount.new.accounts c.args.uid done c.self.invariant.housed
      c.erase.ensures.links refl (shown_held c.self.view_is h);
  core = ap (λ (x : Plain). x.core) c.erase.ensures.effect
      ∙ ap (λ (x : Storage g.row.D.Denot). x.segs.pages.core) c.self.view_is;
  erased = rw (← c.self.view_is)
      (c.erase.ensures.effect ∙ ap (λ (h : Home). erased (plain g.D.Drive.pages c.self.inside.segs.pages) h)
      (home_held c.self.view_is c.args.uid c.home-home.ensures.home));
  ast = search rules;
}
