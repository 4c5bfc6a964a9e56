use Rattle.storage_ops.proofs.Prelude.{rules, ◌≡◌, ◌&&◌, Bool, false, refl, sym, true, Some, take, replicate, ◌++◌, ◌-◌, ap, ◌∙◌, cleared, is_stored, is_zero_page, Flat, cleared_absent, words_at, changed_page, plain, words_in, binding_at, bindings, has_record, word_of, leaves, Shows, is_there, picture, Leaving, Null, Plan, paged, count_of}
use Rattle.storage_ops.proofs.Laws.{active_held, held, word_held, cut_told, frame_bound, frame_is_bound, frame_told, leaving_bound, picture_bound, leaving_is, not_leaving, shown_cut, unstores_cut, active_there, blank_shown, word_filed, unstores_none, cleared_exactly, cleared_told, null_cleared}
use Rattle.storage_ops.proofs.store.Store.clear_page.Goals.{After-cut_from, In-None, In-Some}
use Rattle.storage_ops.proofs.store.Store.clear_page.Goals as goal

-- the word of a page that is on its way out
word : (g : _) (c : In-Some g) → word_of c.self.inside.segs.ast c.args.uid c.args.page ≡ Leaving c.in-Some.f
word g c = leaving_is (word_of c.self.inside.segs.ast c.args.uid c.args.page) c.in-Some.f
    (cc (c.ast.ensures.ast, ap leaves c.word_of.ensures, c.leaves.ensures, c.in-Some.is))

bound : (g : _) (c : In-Some g) → binding_at (bindings c.self.inside.segs.pages.core) c.in-Some.f
    ≡ Some (c.args.uid, c.args.page)
bound g c = leaving_bound c.look.ensures.kept c.self.invariant c.args.page
    (active_held c.self.view_is c.requires.active) (word g c)

there : (g : _) (c : In-Some g) → is_there c.self.inside.accounts.nodes c.args.uid ≡ true
there g c = active_there c.look.ensures.kept c.self.invariant (active_held c.self.view_is c.requires.active)

-- its words are those of its frame, before
before : (g : _) (c : In-Some g) → picture c.self.inside.accounts
    (words_at (plain g.D.Drive.pages c.self.inside.segs.pages)) c.args.uid c.args.page
    ≡ words_in (plain g.D.Drive.pages c.self.inside.segs.pages) c.in-Some.f
before g c = picture_bound c.look.ensures.kept c.self.invariant c.args.page
    (active_held c.self.view_is c.requires.active) (word g c)

-- and after
after : (g : _) (c : After-cut_from g) → words_at (plain g.D.Drive.pages c.cut_from.new.self.pages)
    ≡ changed_page (words_at (plain g.D.Drive.pages c.self.inside.segs.pages)) c.args.uid c.args.page
    (take c.args.at (words_in (plain g.D.Drive.pages c.self.inside.segs.pages) c.in-Some.f)
    ++ replicate (1024 - c.args.at) 0)
after g c =
    let frame = frame_bound c.self.inside.segs.pages.core c.args.uid c.args.page c.in-Some.f
    (bound g (goal.at.returns-in-Some g c).In-Some) in
    cc (frame.0, frame.1, c.cut_from.ensures.words)

-- the word of a page that isn't stored
null : (g : _) (c : In-None g) → word_of c.self.inside.segs.ast c.args.uid c.args.page ≡ Null
null g c = not_leaving (word_of c.self.inside.segs.ast c.args.uid c.args.page)
    (cc (word_held c.self.view_is c.args.uid c.args.page)) (cc (word_held c.self.view_is c.args.uid c.args.page))
    (cc (c.ast.ensures.ast, ap leaves c.word_of.ensures, c.leaves.ensures, c.in-None.is))

off : (g : _) (c : In-None g) (p : Plan) (s : Flat) → Shows g.D.Drive.pages p s (held c.self.view_is)
    → is_stored s.stored c.args.uid c.args.page ≡ false
off g c p s shown = shown.pages.stored c.args.uid c.args.page
    ∙ word_filed c.look.ensures.kept c.self.invariant (active_held c.self.view_is c.requires.active) c.args.page
    ∙ ap has_record (null g c)

pub cut_from-requires-clause-bound : goal.cut_from-requires-clause-bound
cut_from-requires-clause-bound g c = frame_is_bound c.self.inside.segs.pages.core c.args.uid c.args.page c.in-Some.f
    (bound g (goal.at.cut_from-requires-clause-bound g c).In-Some)

pub returns-in-Some : goal.returns-in-Some
returns-in-Some g c =
    let t = held c.self.view_is in
    let some = (goal.at.returns-in-Some g c).In-Some in
    let here = word g some in
    rw (← c.self.view_is) (record {
      rest = unstores_cut refl c.cut_from.ensures.ast c.cut_from.ensures.bindings c.cut_from.ensures.reads
          c.cut_from.ensures.links c.cut_from.ensures.moving refl c.cut_from.ensures.volumes;
      shown = λ p s h. shown_cut c.args.uid c.args.page c.in-Some.f c.args.at c.cut_from.ensures.links
          c.cut_from.ensures.volumes (there g some) (before g some) (after g c) h;
      zero = λ p s h. cut_told t.accounts t.segs.pages.volumes.vtocs _ _ c.args.uid c.args.page c.args.at _
          (there g some) (before g some) (after g c) s c.cut_from.result h.pages
          (word_filed c.look.ensures.kept c.self.invariant (active_held c.self.view_is c.requires.active) c.args.page
          ∙ ap has_record here) c.requires.at (frame_told (plain g.D.Drive.pages t.segs.pages) c.in-Some.f c.args.at
          c.cut_from.result _ c.cut_from.ensures.cut c.cut_from.ensures.zero);
      exact = (λ i. assumption (c.cut_from.ensures.cut i, c.cut_from.ensures.ast i, count_of t.accounts c.args.uid))
          ∙ cleared_exactly (paged g.D.Drive.pages t c.args.uid) c.args.at c.in-Some.f
          (word_of t.segs.ast c.args.uid c.args.page) here;
      told = cleared_told (paged g.D.Drive.pages t c.args.uid) _ c.args.at c.in-Some.f
          (word_of t.segs.ast c.args.uid c.args.page) c.cut_from.result here c.cut_from.ensures.cut
          c.cut_from.ensures.zero;
      away = search rules;
      others = search rules;
    })

pub returns-in-None : goal.returns-in-None
returns-in-None g c =
    let t = held c.self.view_is in
    let cleared_so = null_cleared (paged g.D.Drive.pages t c.args.uid) c.args.at
    (word_of t.segs.ast c.args.uid c.args.page) (null g c) in
    rw (← c.self.view_is) (record {
      rest = unstores_none t c.args.uid;
      shown = λ p s h. rw (cleared_absent s c.args.uid c.args.page c.args.at (λ o at.
          blank_shown c.look.ensures.kept c.self.invariant h c.args.uid o
          (ap (is_stored s.stored c.args.uid) at ∙ off g c p s h))) h;
      zero = λ p s h. sym (ap (λ (z : Bool). z && is_zero_page (cleared s c.args.uid c.args.page c.args.at).words
          c.args.uid c.args.page) (off g c p s h));
      exact = cleared_so.0;
      told = cleared_so.1;
      away = search rules;
      others = search rules;
    })
