-- What holds of the frames that the shutdown has visited holds after each visit, and one frame more was.
use Rattle.machine.proofs.Prelude.{◌≡◌, ◌≢◌, ◌<◌, ℕ, ◌+◌, ◌++◌, ◌∷◌, Bool, true, false, cond, length, replicate, List, Option, Some, None, inl, inr, refl, ap, ◌∙◌, arith, cases_lt, get_or-set_other, get_or-set_same, get_or_past, Entry, bound_page, Left, Home, evicted, Plain, frame_in, words_in, action_of, is_over, Outcome, after, are_zeros, left_of, page_back, page_gone, page_in, with_here, KeepsAll, home_in, no_processor, after_visit, page_taken, visited_if, State, fault_told, with_faults, AreVisited, WasVisited, append_assoc, FillsBusy, idle_kept, pools_kept, none_some, VisitSays, same_seats, visit_over, all_same, [], Entry as entry, Frame as frame, Left as left}

-- a frame that was visited, where its page and its words are as before and the book has entries more
carried : (old new : Plain) (es more : List Entry) (g : ℕ) → frame_in new g ≡ frame_in old g
    → words_in new g ≡ words_in old g → WasVisited old es g → WasVisited new (es ++ more) g
carried old new es more g same words (inl none) = inl (cc)
carried old new es more g same words (inr stayed) = inr (record {
  words = cc;
  told = record {
    before = stayed.told.before;
    later = stayed.told.later ++ more;
    told = ap (λ (xs : List Entry). xs ++ more) stayed.told.told
        ∙ append_assoc stayed.told.before (entry.Fault None ∷ entry.BackPage g ∷ stayed.told.later) more;
  };
})

stays : (old new : Plain) (es more : List Entry) (g : ℕ) → new ≡ old → WasVisited old es g
    → WasVisited new (es ++ more) g
stays old new es more g same h = rw same (carried old old es more g refl refl h)

-- a page that has left its frame: the frame is free, and every other one is as before
evicted_words : (pages : Plain) (home : Home) (p f g : ℕ) (how : Left)
    → words_in (evicted pages home p f how) g ≡ words_in pages g
evicted_words pages home p f g left.Released = refl
evicted_words pages home p f g left.Kept = refl

evicted_other : (pages : Plain) (home : Home) (p f g : ℕ) (how : Left) → g ≢ f
    → frame_in (evicted pages home p f how) g ≡ frame_in pages g
evicted_other pages home p f g left.Released other = get_or-set_other pages.core.frames f g frame.Free frame.Free other
evicted_other pages home p f g left.Kept other = get_or-set_other pages.core.frames f g frame.Free frame.Free other

evicted_here : (pages : Plain) (home : Home) (p f : ℕ) (how : Left) → f < length pages.core.frames
    → frame_in (evicted pages home p f how) f ≡ frame.Free
evicted_here pages home p f left.Released there = get_or-set_same pages.core.frames f frame.Free frame.Free there
evicted_here pages home p f left.Kept there = get_or-set_same pages.core.frames f frame.Free frame.Free there

-- a frame with a page is there
pub bound_there : (pages : Plain) (f : ℕ) (page : ℕ × ℕ) → bound_page (frame_in pages f) ≡ Some page
    → f < length pages.core.frames
bound_there pages f page h = grind (arith, none_some, get_or_past)

module _ (s : State) (o : Outcome) (all : KeepsAll s) (visits : AreVisited s) (over : is_over s ≡ true)
    (more : s.visited < s.plan.frames) (says : VisitSays s o) where
  abbrev f : ℕ
  f = s.visited

  abbrev taken : State
  taken = page_taken s f

  taken_pages : taken.store.pages ≡ s.store.pages
  taken_pages = grind arith

  back_pages : (with_here taken.store f).pages ≡ s.store.pages
  back_pages = grind (arith, taken_pages)

  abbrev gone : State
  gone = page_gone (with_faults taken o.faults) f

  abbrev back : State
  back = page_back (fault_told taken None o.faults) f

  -- frames before this one
  earlier : (g : ℕ) → g < f → (b : Bool) → WasVisited (record (cond b back gone) { visited = f + 1 }).store.pages
      (record (cond b back gone) { visited = f + 1 }).entries g
  earlier g lt true = stays _ _ _ _ g back_pages (stays _ _ _ _ g refl (stays _ _ _ _ g refl (visits.each g lt)))
  earlier g lt false = carried taken.store.pages _ (s.entries ++ entry.Take f ∷ []) _ g
      (evicted_other taken.store.pages (home_in taken.store (page_in taken.store f).0) (page_in taken.store f).1 f g
      (left_of (words_in taken.store.pages f)) (λ e. omega arith))
      (evicted_words taken.store.pages (home_in taken.store (page_in taken.store f).0) (page_in taken.store f).1 f g
      (left_of (words_in taken.store.pages f))) (stays _ _ _ _ g taken_pages (visits.each g lt))

  -- the frame that is visited
  this : (page : ℕ × ℕ) → bound_page (frame_in s.store.pages f) ≡ Some page → (b : Bool) → o.failed ≡ b
      → WasVisited (record (cond b back gone) { visited = f + 1 }).store.pages
      (record (cond b back gone) { visited = f + 1 }).entries f
  this page bound true ill = inr (record {
    words = ap (λ (p : Plain). are_zeros (words_in p f)) back_pages ∙ says.words ill;
    told = record {
      before = s.entries ++ entry.Take f ∷ [];
      later = [];
      told = append_assoc (s.entries ++ entry.Take f ∷ []) (entry.Fault None ∷ []) (entry.BackPage f ∷ []);
    };
  })
  this page bound false well = inl (ap bound_page (evicted_here taken.store.pages
      (home_in taken.store (page_in taken.store f).0) (page_in taken.store f).1 f
      (left_of (words_in taken.store.pages f)) (rw taken_pages (bound_there s.store.pages f page bound))))

  each_next : (x : Option (ℕ × ℕ)) → bound_page (frame_in s.store.pages f) ≡ x → (g : ℕ) → g < f + 1
      → WasVisited (record (visited_if s f o x) { visited = f + 1 }).store.pages
      (record (visited_if s f o x) { visited = f + 1 }).entries g
  each_next None bound g lt = elim (cases_lt g f) [
    | inl less ↦ visits.each g less
    | inr far ↦ inl (let same : g ≡ f = omega arith in
        cc)
  ]
  each_next (Some page) bound g lt = elim (cases_lt g f) [
    | inl less ↦ earlier g less o.failed
    | inr far ↦ (let same : g ≡ f = omega arith in
        rw same (this page bound o.failed refl))
  ]

  -- What holds of the frames that were visited holds after a visit.
  pub visited_next : AreVisited (after_visit s o)
  visited_next = grind (arith, visit_over, each_next, same_seats)

-- ---- at first, and after the steps of processors

-- no frame was visited, and no processor has a process
pub visited_first : (s : State) (n : ℕ) → s.processors ≡ replicate n no_processor → s.visited ≡ 0 → AreVisited s
visited_first s n idle none = grind (arith, all_same)

-- a machine in which no process is ready or running stays as it is
still_over : (s : State) (c : ℕ) (o : Outcome) → is_over s ≡ true → after s c (action_of s c) o ≡ s
unfolding action_of after
still_over s c o over = grind arith

-- What holds of the frames that were visited holds after a step.
pub visited_after : (s : State) (c : ℕ) (o : Outcome) → c < length s.processors → FillsBusy s c (action_of s c)
    → AreVisited s → AreVisited (after s c (action_of s c) o)
visited_after s c o there busy visits = grind (arith, still_over, idle_kept, pools_kept)
