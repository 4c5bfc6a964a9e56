use Rattle.storage_ops.proofs.Prelude.{rules, ◌≡◌, ℕ, ◌/◌, ◌%◌, false, refl, sym, ap, ◌∙◌, arith, cleared, has_cleared, is_away, Storage, home_of, is_there, word_of, paged}
use Rattle.storage_ops.proofs.Laws.{active_there, idle_still, unstores_both, active_still, home_still, cut_dropped, cut_kept, others_both}
use Rattle.storage_ops.proofs.store.Store.cut_page.Goals as goal

pub home-home-requires : goal.home-home-requires
home-home-requires g c =
    let active = rw (← c.self.view_is) at c.requires.past.active in
    ap (λ (x : Storage g.row.D.Denot). is_there x.accounts.nodes c.args.uid) (sym c.self.view_is)
    ∙ active_there c.look.ensures.kept c.self.invariant active

pub drop_page-requires-clause-may : goal.drop_page-requires-clause-may
drop_page-requires-clause-may g c = record {
  home = cc (home_still c.args.uid c.clear_page.ensures.rest);
  active = active_still c.clear_page.ensures.rest c.requires.past.active;
  idle = idle_still c.clear_page.ensures.rest.reads (c.requires.past.past.idle (c.args.words / 1024) (omega arith));
}

pub drop_page-requires-clause-away : goal.drop_page-requires-clause-away
drop_page-requires-clause-away g c = ap is_away (c.clear_page.ensures.rest.kept (c.args.words / 1024) refl)
    ∙ c.clear_page.ensures.away c.if-clear_page.true

pub returns-then-clear_page : goal.returns-then-clear_page
returns-then-clear_page g c = record {
  rest = unstores_both c.clear_page.ensures.rest c.drop_page.ensures.rest;
  shown = λ p s h.
      let page : ℕ = c.args.words / 1024 in
      let done = c.drop_page.ensures.shown p (cleared s c.args.uid page (c.args.words % 1024))
      (c.clear_page.ensures.shown p s h) in
      rw (sym (c.clear_page.ensures.zero p s h) ∙ c.if-clear_page.true) done;
  exact =
      let page : ℕ = c.args.words / 1024 in
      cut_dropped (paged g.D.Drive.pages c.args.self.now c.args.uid)
      (paged g.D.Drive.pages c.clear_page.new.self c.args.uid) (paged g.D.Drive.pages c.drop_page.new.self c.args.uid)
      (home_of c.args.self.now.accounts c.args.uid) c.args.uid page (c.args.words % 1024)
      (word_of c.args.self.now.segs.ast c.args.uid page) (word_of c.clear_page.new.self.segs.ast c.args.uid page) (cc)
      c.clear_page.ensures.exact (c.clear_page.ensures.rest.kept page refl) (rw (← home_still c.args.uid
      c.clear_page.ensures.rest) c.drop_page.ensures.exact);
  others =
      others_both c.args.self.now.accounts c.clear_page.new.self.accounts c.drop_page.new.self.accounts
      c.clear_page.ensures.others c.drop_page.ensures.others;
}

pub returns-else-clear_page : goal.returns-else-clear_page
returns-else-clear_page g c = record {
  rest = c.clear_page.ensures.rest;
  shown = λ p s h.
      let is : has_cleared s c.args.uid (c.args.words / 1024) (c.args.words % 1024) ≡ false = sym
      (c.clear_page.ensures.zero p s h) ∙ c.if-clear_page.false in
      rw is (c.clear_page.ensures.shown p s h);
  exact =
      let page : ℕ = c.args.words / 1024 in
      cut_kept (paged g.D.Drive.pages c.args.self.now c.args.uid)
      (paged g.D.Drive.pages c.clear_page.new.self c.args.uid) (home_of c.args.self.now.accounts c.args.uid) c.args.uid
      page (c.args.words % 1024) (word_of c.args.self.now.segs.ast c.args.uid page) (cc) c.clear_page.ensures.exact;
  others = search rules;
}
