use Rattle.storage_ops.proofs.Prelude.{sym, ap, ◌∙◌, refl, none_missing, ActiveSegs, plain, has_record, is_away, word_of, is_here, Storage, home_of, page_cut, paged}
use Rattle.storage_ops.proofs.Laws.{active_held, held, word_held, null_of, unstores_null, active_tie, blank_shown, word_filed}
use Rattle.storage_ops.proofs.store.Store.unstore.Goals as goal

pub drop_page-requires-clause-away : goal.drop_page-requires-clause-away
drop_page-requires-clause-away g c = ap (λ (x : ActiveSegs). is_away (word_of x c.args.uid c.args.page))
    (ap (λ (x : Storage g.row.D.Denot). x.segs.ast) (sym c.self.view_is) ∙ sym c.ast.ensures.ast)
    ∙ ap is_away (sym c.word_of.ensures) ∙ sym c.is_away.ensures ∙ c.if-is_away.true

pub returns-else-is_away : goal.returns-else-is_away
returns-else-is_away g c =
    let t = held c.self.view_is in
    let now = plain g.D.Drive.pages t.segs.pages in
    let active = active_held c.self.view_is c.requires.may.active in
    let taken = ap is_here (word_held c.self.view_is c.args.uid c.args.page) ∙ c.requires.taken in
    let null = null_of (word_of t.segs.ast c.args.uid c.args.page) taken (ap (λ (x : ActiveSegs). is_away
    (word_of x c.args.uid c.args.page)) (sym c.ast.ensures.ast) ∙ ap is_away (sym c.word_of.ensures) ∙ sym
    c.is_away.ensures ∙ c.if-is_away.false) in
    rw (← c.self.view_is) (record {
      rest = unstores_null g.D.Drive.pages c.args.page
          (active_tie c.ast.ensures.kept c.self.invariant active).table null;
      shown = λ p s h. rw (none_missing s c.args.uid c.args.page (blank_shown c.ast.ensures.kept c.self.invariant h)
          (h.pages.stored c.args.uid c.args.page ∙ (word_filed
          c.ast.ensures.kept c.self.invariant active c.args.page ∙ ap has_record null))) h;
      exact = ap (page_cut (paged g.D.Drive.pages t c.args.uid) (home_of t.accounts c.args.uid) c.args.uid
          c.args.page) (sym null);
      others = λ s apart. refl;
    })
