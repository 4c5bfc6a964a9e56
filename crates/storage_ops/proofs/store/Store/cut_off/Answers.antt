use Rattle.storage_ops.proofs.Prelude.{rules, ◌+◌, ◌/◌, nat_le, without_pages, even_cut, whole_cut, home_of, pages_in, paged}
use Rattle.storage_ops.proofs.Laws.{cuts_even, cuts_odd, home_still, taken_past, cut_evenly, cut_oddly, others_both}
use Rattle.storage_ops.proofs.store.Store.cut_off.Goals as goal

pub cut_page-requires-clause-past : goal.cut_page-requires-clause-past
cut_page-requires-clause-past g c = taken_past c.drop_from-else-words-eq0.ensures.rest c.requires.past

pub returns-then-words-eq0 : goal.returns-then-words-eq0
returns-then-words-eq0 g c = record {
  pages = cuts_even c.drop_from.ensures.rest;
  shown = λ p s h.
      rw (← even_cut s c.args.uid c.args.words c.if-words-eq0.true) (c.drop_from.ensures.shown p s h);
  exact =
      cut_evenly (paged g.D.Drive.pages c.args.self.now c.args.uid) (home_of c.args.self.now.accounts c.args.uid)
      c.args.uid (pages_in c.args.self.now.accounts.nodes c.args.uid) c.args.words c.if-words-eq0.true
      c.drop_from.ensures.exact;
  others = search rules;
}

pub returns-else-words-eq0 : goal.returns-else-words-eq0
returns-else-words-eq0 g c = record {
  pages = cuts_odd
      c.cut_page.result (λ is. c.if-words-eq0.false is) c.drop_from-else-words-eq0.ensures.rest c.cut_page.ensures.rest;
  shown = λ p s h. rw (← whole_cut s c.args.uid c.args.words)
      (c.cut_page.ensures.shown p (without_pages s c.args.uid (λ q. nat_le (c.args.words / 1024 + 1) q))
      (c.drop_from-else-words-eq0.ensures.shown p s h));
  exact =
      let mid = c.drop_from-else-words-eq0.new.self in
      cut_oddly (paged g.D.Drive.pages c.args.self.now c.args.uid)
      (home_of c.args.self.now.accounts c.args.uid) c.args.uid (pages_in c.args.self.now.accounts.nodes c.args.uid)
      c.args.words (λ is. c.if-words-eq0.false is) c.drop_from-else-words-eq0.ensures.exact
      (rw (← home_still c.args.uid c.drop_from-else-words-eq0.ensures.rest) c.cut_page.ensures.exact);
  others =
      others_both c.args.self.now.accounts c.drop_from-else-words-eq0.new.self.accounts c.cut_page.new.self.accounts
      c.drop_from-else-words-eq0.ensures.others c.cut_page.ensures.others;
}
