use Rattle.storage_ops.proofs.Prelude.{◌≡◌, refl, ap, ◌∙◌, has_segment, plain, Control, home_at, Storage, home_of}
use Rattle.storage_ops.proofs.Laws.{held, shown_held, committed_entries, committed_sizes, segment_there, HasRehomed, shown_rehomed, store_rehomed}
use Rattle.storage_ops.proofs.store.Store.move_commit.Goals.{After-set_home}
use Rattle.storage_ops.proofs.store.Store.move_commit.Goals as goal

-- the home that the segment leaves is the node's
left : (g : _) (c : After-set_home g) → home_at c.args.m.from ≡ home_of c.self.inside.accounts c.args.m.uid
left g c =
    let way = rw (ap (λ (x : Storage g.row.D.Denot). x.segs.moving) c.self.view_is ∙ c.requires.moving) at
    c.look_at_move.ensures in
    c.self.invariant.housed.only (home_at c.args.m.from) c.args.m.uid way.home.used

-- what has become of its home
done : (g : _) (c : After-set_home g) → HasRehomed (plain g.D.Drive.pages c.self.inside.segs.pages)
    (plain g.D.Drive.pages c.move_commit-home.new.self.pages)
    c.self.inside.accounts c.set_home.new.self c.args.m.uid (home_of c.self.inside.accounts c.args.m.uid)
    (home_at c.args.m.to)
done g c = rw (← left g c) (record {
  there = segment_there c.self.inside.accounts.nodes c.args.m.uid (ap (λ (x : Storage g.row.D.Denot). has_segment
      x.accounts.nodes c.args.m.uid) c.self.view_is ∙ c.requires.segment);
  rehomes = c.set_home.ensures.home;
  here = c.move_commit-home.ensures.to;
  gone = c.move_commit-home.ensures.from;
  free = c.move_commit-home.ensures.free;
  uids = c.move_commit-home.ensures.uids;
  maps = c.move_commit-home.ensures.maps;
  filed = c.move_commit-home.ensures.stored;
  named = c.move_commit-home.ensures.named;
  taken_moves = c.move_commit-home.ensures.taken;
  left = c.move_commit-home.ensures.left;
  gained = c.move_commit-home.ensures.gained;
  beside = c.move_commit-home.ensures.entries;
  words = c.move_commit-home.ensures.moved;
  others = c.move_commit-home.ensures.words;
  sizes = λ v. cc (c.move_commit-home.ensures.effect, committed_sizes c.self.inside.segs c.args.m v);
  places = λ v. cc (c.move_commit-home.ensures.effect, committed_entries c.self.inside.segs c.args.m v);
})

pub invariant_of-self : goal.invariant_of-self
invariant_of-self g c =
    let t = held c.self.view_is in
    let links = ap (λ (x : Control g.row.D.Denot). x.links) c.move_commit-home.ensures.effect in
    rw links (store_rehomed (done g c) c.self.invariant.housed c.promise.ensures.tree
    (ap (λ (x : Control g.row.D.Denot). x.ast.entries) c.move_commit-home.ensures.effect)
    (ap (λ (x : Control g.row.D.Denot). x.ast.sizes) c.move_commit-home.ensures.effect) c.self.invariant)

pub returns-clause-shown : goal.returns-clause-shown
returns-clause-shown g c = λ p s h.
    let n = record (held c.self.view_is) { accounts = c.set_home.new.self; segs = c.move_commit-home.new.self } in
    shown_rehomed (done g c) c.self.invariant.housed (cc) refl (shown_held c.self.view_is h)
