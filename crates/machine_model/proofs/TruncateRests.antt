-- What a `truncate` must have out of use is so where it takes effect: the pages that it cuts off are those that its job
-- took, and the one that keeps a word is here again.
use Rattle.machine_model.proofs.StepBasics.{cond_both, not-false, cases_Bool, not-true, nat_tests, eqb_self, ne_eqb, [], ◌≡◌, ◌≢◌, ◌<◌, ◌≤◌, ◌*◌, ℕ, zero, suc, ◌+◌, ◌-◌, ◌/◌, ◌%◌, Bool, true, false, not, ◌&&◌, cond, eqb, List, ◌∷◌, ◌++◌, length, take, replicate, get_or, set, Option, Some, None, ◌⊎◌, inl, inr, refl, sym, ap, subst, ◌∙◌, arith, nat_le, nat_lt, Result, Ok, Err, eqb_tells, leb_tells, get_or-set_same, get_or_past, length-set, Path, Reply, Node, after_reference, bound_page, started_page, Ptw, frame_in, words_in, place_of, table_of, node_at, segment_at, is_zero_page, without_words, is_lost, zero_words, has, is_going_frame, page_of, LosesNoPage, OfNode, at_put_two, page_at, first_past, pages_past, stays, with_cut, without_page, AreDistinct, names, seen, are_zeros, here_if, page_in, with_here, Keeps, cut_of_owner, flat_of, frames_of_owner, is_active, process_at, Seen, shown, use_of, State, Storage, with_owner, with_pages, IsTakenFor, only_found, and-false, binding_at, read_at, has_head, has_tail, not_both, page_is, map_kept, Command as command, Frame as frame, Ptw as ptw, effects_cut as cut, FrameUse as frame_use, page_referred, Command, going_word, map_list, bound_word, range_has, put_here, put_other, put_two_here, by_places, binding_is, words_put, none_some, active_at, word_within, IsOut, Rests, RestsCommit, effected, bound_unread, taken_word, bound_within, in_range_is, link_member, member_link, started_after}
use Rattle.machine_model.proofs.CommitRests.{cut_led, none_cut, page_bound, path_uid, acl_rests, delete_rests, end_rests, terminate_rests}
use Rattle.machine_model.proofs.PagesCut.{put_two_other, AreCutOff, HasPlaces, IsCutOff, bound_in, cut_places, page_cut_off, pages_cut_off, read_in, word_in}
use Rattle.machine_model.proofs.TruncateKept.{QuietWords, all_left, cut_store, leaf, leaves, segment}

-- ---- the page that the words cut

-- what cutting one page changes: its word, and its frame where it is all zeros then
record IsBegun (st now : Storage) (u p : ℕ) : Type 0 where
  words : (v q : ℕ) → (v ≡ u → q ≡ p → ⊥) → word_in now v q ≡ word_in st v q
  bound : (g : ℕ) → word_in st u p ≢ ptw.Leaving g → bound_in now g ≡ bound_in st g
  reads : (g : ℕ) → (word_in st u p ≡ ptw.Leaving g → read_in st g ≡ None) → read_in now g ≡ read_in st g
  leaving : (g : ℕ) → word_in now u p ≡ ptw.Leaving g → word_in st u p ≡ ptw.Leaving g
  places : now.ast.entries ≡ st.ast.entries
  links : now.links ≡ st.links
  has_places : HasPlaces now

begun_same : {st : Storage} (u p : ℕ) → HasPlaces st → IsBegun st st u p
begun_same u p h = assumption

-- the page that the words cut: as it was where no frame has it, stored no more, or here again
record IsCut (st now : Storage) (u p at : ℕ) : Type 0 where
  begun : IsBegun st now u p
  quiet : ((f : ℕ) → word_in st u p ≢ ptw.Leaving f) → word_in now u p ≡ word_in st u p
  zeros : (f : ℕ) → word_in st u p ≡ ptw.Leaving f → are_zeros (words_in (cut st.pages f at) f) ≡ true
      → (word_in now u p ≡ ptw.Null) × (bound_in now f ≡ None)
  kept : (f : ℕ) → word_in st u p ≡ ptw.Leaving f → are_zeros (words_in (cut st.pages f at) f) ≡ false
      → (word_in now u p ≡ ptw.Here f) × (bound_in now f ≡ bound_in st f)

leaving_same : (f g : ℕ) → ptw.Leaving f ≡ ptw.Leaving g → f ≡ g
leaving_same f g e = cc

module _ (st : Storage) (u p at f : ℕ) (h : HasPlaces st) (leaving : word_in st u p ≡ ptw.Leaving f)
    (tie : bound_in st f ≡ Some (u, p)) where
  abbrev now : Storage
  now = with_pages st (cut st.pages f at)

  within : f < length st.pages.core.frames
  within = h.within u p f leaving

  bound_same : (g : ℕ) → bound_in now g ≡ bound_in st g
  bound_same g = λ i. binding_at (map_kept bound_page st.pages.core.frames f frame.Free
      (after_reference (frame_in st.pages f) true) (page_referred (frame_in st.pages f) true) i) g

  reads_same : (g : ℕ) → read_in now g ≡ read_in st g
  reads_same g = λ i. read_at (map_kept started_page st.pages.core.frames f frame.Free
      (after_reference (frame_in st.pages f) true) (started_after (frame_in st.pages f) true) i) g

  places_now : HasPlaces now
  places_now = record {
    tables = h.tables;
    within = λ v q g e. rw (length-set st.pages.core.frames f _) (h.within v q g e);
  }

  -- it is stored no more
  abbrev gone_store : Storage
  gone_store = without_page now u p (ptw.Leaving f)

  gone : IsCutOff now gone_store u p (ptw.Leaving f)
  gone = page_cut_off u p (ptw.Leaving f) places_now leaving

  gone_null : word_in gone_store u p ≡ ptw.Null
  gone_null = gone.words u p ∙ put_two_here (λ x y. word_in st x y) u p ptw.Null

  gone_begun : IsBegun st gone_store u p
  gone_begun = record {
    words = λ v q n. gone.words v q ∙ put_two_other (λ x y. word_in st x y) u p ptw.Null v q n;
    bound = λ g n. gone.bound g ∙ rw (ne_eqb g f (λ e. n (cc))) (bound_same g);
    reads = λ g i. gone.reads g ∙ (elim (eqb_tells g f) [
      | inl e ↦ rw e.0 (sym (i (cc)))
      | inr m ↦ rw m.0 (reads_same g)
    ]);
    leaving = λ g e. absurd (let no : ptw.Null ≡ ptw.Leaving g = sym gone_null ∙ e in cc);
    places = gone.places;
    links = gone.links;
    has_places = cut_places places_now gone;
  }

  gone_free : bound_in gone_store f ≡ None
  gone_free = cc (gone.bound f, eqb_self f)

  -- it is here again
  here_word : (v q : ℕ) → word_in (here_if now f (Some (u, p))) v q
      ≡ at_put_two (λ x y. word_in st x y) u p (ptw.Here f) v q
  here_word = words_put st.ast u p (ptw.Here f) h.tables
      (λ i. (let no : ptw.Leaving f ≡ ptw.Null = sym leaving ∙ i in cc))

  here_is : with_here now f ≡ here_if now f (Some (u, p))
  here_is = cc (map_list bound_page now.pages.core.frames f frame.Free, bound_same f)

  here_this : word_in (here_if now f (Some (u, p))) u p ≡ ptw.Here f
  here_this = here_word u p ∙ put_two_here (λ x y. word_in st x y) u p (ptw.Here f)

  here_begun : IsBegun st (here_if now f (Some (u, p))) u p
  here_begun = record {
    words = λ v q n. here_word v q ∙ put_two_other (λ x y. word_in st x y) u p (ptw.Here f) v q n;
    bound = λ g n. bound_same g;
    reads = λ g i. reads_same g;
    leaving = λ g e. cc (sym here_this ∙ e);
    places = refl;
    links = refl;
    has_places = record {
      tables = length-set st.ast.tables (place_of st.ast.entries u) _ ∙ h.tables;
      within = λ v q g e. subst (λ (n : ℕ). g < n) (sym (length-set st.pages.core.frames f _))
          (by_places (λ (x : Ptw). x ≡ ptw.Leaving g → g < length st.pages.core.frames) (λ x y. word_in st x y) u p
          (ptw.Here f) v q (λ a b i. cc) (λ m i. h.within v q g i) (sym (here_word v q) ∙ e));
    };
  }

  its : (g : ℕ) → word_in st u p ≡ ptw.Leaving g → f ≡ g
  its g i = leaving_same f g (cc)

  gone_cut : are_zeros (words_in (cut st.pages f at) f) ≡ true → IsCut st gone_store u p at
  gone_cut z = record {
    begun = gone_begun;
    quiet = λ n. absurd (n f leaving);
    zeros = λ g i y. (gone_null, cc (its g i, gone_free));
    kept = λ g i y. absurd (not_both (rw (its g i) at z) y);
  }

  here_cut : are_zeros (words_in (cut st.pages f at) f) ≡ false → IsCut st (with_here now f) u p at
  here_cut z = subst (λ (x : Storage). IsCut st x u p at) (sym here_is) (record {
    begun = here_begun;
    quiet = λ n. absurd (n f leaving);
    zeros = λ g i y. absurd (not_both y (rw (its g i) at z));
    kept = λ g i y. (cc (here_this, its g i), bound_same g);
  })

page_cut : (st : Storage) (u p at : ℕ) → HasPlaces st
    → ((f : ℕ) → word_in st u p ≡ ptw.Leaving f → bound_in st f ≡ Some (u, p))
    → IsCut st (with_cut st u p at (word_in st u p)) u p at
page_cut st u p at h tie = by (word_in st u p) refl
  where
    same : (w : Ptw) → word_in st u p ≡ w → ((f : ℕ) → w ≢ ptw.Leaving f) → IsCut st st u p at
    same w e n = record {
      begun = begun_same u p h;
      quiet = λ i. refl;
      zeros = λ f i z. absurd (n f (sym e ∙ i));
      kept = λ f i z. absurd (n f (sym e ∙ i));
    }

    by : (w : Ptw) → word_in st u p ≡ w → IsCut st (with_cut st u p at w) u p at
    by (ptw.Leaving f) e = cond_both (are_zeros (words_in (cut st.pages f at) f)) _ _ (λ x. IsCut st x u p at)
        (gone_cut st u p at f h e (tie f e)) (here_cut st u p at f h e (tie f e))
    by w e = same w e (λ f i. (cc i))

-- ---- the frames that the job took, as custody sees them go or come back

-- a page that stays keeps its frame
leaf_bound : (v : Seen) (f : ℕ) (b : Bool) (g : ℕ) → g ≢ f → (leaf v f b).bound g ≡ v.bound g
leaf_bound v f true g n = refl
leaf_bound v f false g n = put_other v.bound f None g n

left_bound : (v : Seen) (test : ℕ → Bool) (fs : List ℕ) (g : ℕ)
    → (leaves v test fs).bound g ≡ cond (has fs g && not (test g)) None (v.bound g)
left_bound v test [] g = refl
left_bound v test (f ∷ fs) g = left_bound (leaf v f (test f)) test fs g ∙ (elim (eqb_tells f g) [
  | inl e ↦ (λ i. cond (has fs g && not (test g)) None ((leaf v (e.1 i) (test (e.1 i))).bound g))
      ∙ rw e.0 (here (test g) (has fs g))
  | inr m ↦ rw (m.0, leaf_bound v f (test f) g (λ e. m.1 (sym e))) refl
])
  where
    here : (b x : Bool) → cond (x && not b) None ((leaf v g b).bound g) ≡ cond (not b) None (v.bound g)
    here true true = refl
    here true false = refl
    here false true = refl
    here false false = put_here v.bound g None

-- the word of a page that no frame of theirs has
leaf_word : (v : Seen) (f : ℕ) (b : Bool) (w q : ℕ) → (w ≡ (page_at v f).0 → q ≡ (page_at v f).1 → ⊥)
    → (leaf v f b).words w q ≡ v.words w q
leaf_word v f true w q n = put_two_other v.words (page_at v f).0 (page_at v f).1 (ptw.Here f) w q n
leaf_word v f false w q n = put_two_other v.words (page_at v f).0 (page_at v f).1 ptw.Null w q n

leaf_this : (v : Seen) (f : ℕ) (b : Bool) {w q : ℕ} → w ≡ (page_at v f).0 → q ≡ (page_at v f).1
    → (leaf v f b).words w q ≡ cond b (ptw.Here f) ptw.Null
leaf_this v f true {w} {q} a b = by_places (λ (x : Ptw). x ≡ ptw.Here f) v.words (page_at v f).0 (page_at v f).1
    (ptw.Here f) w q (λ i j. refl) (λ m. absurd (m a b))
leaf_this v f false {w} {q} a b = by_places (λ (x : Ptw). x ≡ ptw.Null) v.words (page_at v f).0 (page_at v f).1 ptw.Null
    w q (λ i j. refl) (λ m. absurd (m a b))

-- each of some frames has a page of its own
record HavePages (v : Seen) (fs : List ℕ) (page : ℕ → ℕ × ℕ) : Type 0 where
  once : AreDistinct fs
  each : (f : ℕ) → has fs f ≡ true → page_at v f ≡ page f
  alone : (f g : ℕ) → has fs f ≡ true → has fs g ≡ true → (page f).0 ≡ (page g).0 → (page f).1 ≡ (page g).1 → f ≡ g

next_pages : {v : Seen} (f : ℕ) (fs : List ℕ) {page : ℕ → ℕ × ℕ} (b : Bool) → HavePages v (f ∷ fs) page
    → HavePages (leaf v f b) fs page
next_pages {v} f fs b h = record {
  once = h.once.1;
  each = λ g i. cc (
    leaf_bound v f b g (λ e. not_both (subst (λ (x : ℕ). has fs x ≡ true) e i) h.once.0),
    h.each g (has_tail f fs g i),
  );
  alone = λ g i x y. h.alone g i (has_tail f fs g x) (has_tail f fs i y);
}

left_other : (v : Seen) (test : ℕ → Bool) (fs : List ℕ) {page : ℕ → ℕ × ℕ} (w q : ℕ) → HavePages v fs page
    → ((f : ℕ) → has fs f ≡ true → (page f).0 ≡ w → (page f).1 ≡ q → ⊥) → (leaves v test fs).words w q ≡ v.words w q
left_other v test [] w q h n = refl
left_other v test (f ∷ fs) w q h n =
    left_other (leaf v f (test f)) test fs w q (next_pages f fs (test f) h) (λ g i. n g (has_tail f fs g i))
    ∙ leaf_word v f (test f) w q (λ a b. n f (has_head f fs) (rw (h.each f (has_head f fs)) at (sym a))
    (rw (h.each f (has_head f fs)) at (sym b)))

left_this : (v : Seen) (test : ℕ → Bool) (fs : List ℕ) {page : ℕ → ℕ × ℕ} (f : ℕ) → HavePages v fs page
    → has fs f ≡ true → (leaves v test fs).words (page f).0 (page f).1 ≡ cond (test f) (ptw.Here f) ptw.Null
left_this v test [] f h i = cc
left_this v test (g ∷ gs) {page} f h i = elim (eqb_tells g f) [
  | inl e ↦ left_other (leaf v g (test g)) test gs (page f).0 (page f).1 (next_pages g gs (test g) h)
      (λ j x a b. not_both (rw (h.alone j f (has_tail g gs j x) i a b ∙ sym e.1) at x) h.once.0)
      ∙ (cc (leaf_this v g (test g) (its e.1 (λ (x : ℕ × ℕ). x.0)) (its e.1 (λ (x : ℕ × ℕ). x.1))))
  | inr m ↦ left_this (leaf v g (test g)) test gs f (next_pages g gs (test g) h) (rw m.0 at i)
]
  where
    its : g ≡ f → (part : ℕ × ℕ → ℕ) → part (page f) ≡ part (page_at v g)
    its e part = cc (h.each g (has_head g gs))

left_reads : (v : Seen) (test : ℕ → Bool) (fs : List ℕ) → (leaves v test fs).reads ≡ v.reads
left_reads v test [] = refl
left_reads v test (f ∷ fs) = left_reads (leaf v f (test f)) test fs ∙ by (test f)
  where
    by : (b : Bool) → (leaf v f b).reads ≡ v.reads
    by true = refl
    by false = refl

-- ---- a page that keeps a word

zeros_after : (n : ℕ) → are_zeros (replicate n 0) ≡ true
zeros_after zero = refl
zeros_after (suc n) = zeros_after n

zeros_cut : (ws : List ℕ) (at n : ℕ) → ((i : ℕ) → i < at → get_or ws i 0 ≡ 0)
    → are_zeros (take at ws ++ replicate n 0) ≡ true
zeros_cut ws zero n zero_is = zeros_after n
zeros_cut [] (suc at) n zero_is = zeros_after n
zeros_cut (w ∷ ws) (suc at) n zero_is = let first : w ≡ 0 = zero_is zero (omega arith) in
    rw first (zeros_cut ws at n (λ i less. zero_is (suc i) (omega arith)))

-- a page in a frame whose words before an offset are zeros is all zeros once it is cut there
cut_zeros : (st : Storage) (f at : ℕ) → ((i : ℕ) → i < at → get_or (words_in st.pages f) i 0 ≡ 0)
    → are_zeros (words_in (cut st.pages f at) f) ≡ true
cut_zeros st f at zero_is = elim (leb_tells (length st.pages.frames) f) [
  | inl e ↦ ap are_zeros (get_or_past (set st.pages.frames f _) f [] (rw (length-set st.pages.frames f _) e.1))
  | inr m ↦ ap are_zeros (get_or-set_same st.pages.frames f _ [] m.1)
      ∙ zeros_cut (words_in st.pages f) at (1024 - at) zero_is
]

-- ---- the command

module _ (s : State) (c : ℕ) (path : Path) (size : ℕ) (keeps : Keeps s)
    (h : IsTakenFor s (process_at s c) (command.Truncate path size)) where
  abbrev u : ℕ
  u = segment s c (process_at s c) path size

  abbrev st : Storage
  st = s.store

  abbrev p : ℕ
  p = size / 1024

  abbrev at : ℕ
  at = size % 1024

  abbrev first : ℕ
  first = first_past size

  abbrev ps : List ℕ
  ps = pages_past st u size

  abbrev fs : List ℕ
  fs = frames_of_owner s.owner

  abbrev test : ℕ → Bool
  test = stays st size

  abbrev mid : Storage
  mid = cond (eqb at 0) st (with_cut st u p at (word_in st u p))

  -- ---- what the job took

  word_bound : (v q f : ℕ) → word_in st v q ≡ ptw.Leaving f → (seen s).bound f ≡ Some (v, q)
  word_bound v q f e = keeps.book.tied.back f v q (ap names e)

  word_taken : (v q f : ℕ) → word_in st v q ≡ ptw.Leaving f → (has fs f ≡ true) × (v ≡ u) × (p ≤ q)
  word_taken v q f e = let its = h.just.its_pages f v q
      (cc (word_bound v q f e, page_bound (seen s).words (v, q) ((seen s).reads f))) going in
      (sym (keeps.book.going_owned.frames f) ∙ going, its.0, its.1)
    where
      going : is_going_frame ((shown (seen s)).frame f) ≡ true
      going = cc (word_bound v q f e)

  frame_word : (f q : ℕ) → (seen s).bound f ≡ Some (u, q) → p ≤ q → word_in st u q ≡ ptw.Leaving f
  frame_word f q e le = rw e at (going_word f keeps.book (h.just.pages f u q
      (cc (e, page_bound (seen s).words (u, q) ((seen s).reads f))) (refl, le)))

  not_here : (f q : ℕ) → word_in st u q ≡ ptw.Here f → p ≤ q → ⊥
  not_here f q e le = cc (sym e ∙ frame_word f q (keeps.book.tied.back f u q (ap names e)) le)

  not_read : (f q : ℕ) → (seen s).reads f ≡ Some (u, q) → p ≤ q → ⊥
  not_read f q e le = not_both (h.just.pages f u q (ap page_of is) (refl, le)) (ap is_going_frame is)
    where
      is : (shown (seen s)).frame f ≡ frame_use.Started u q
      is = cc (keeps.book.tied.unbound f u q e)

  -- a frame that it took
  record IsMine (f : ℕ) : Type 0 where
    page : ℕ
    its : page_at (seen s) f ≡ (u, page)
    bound : (seen s).bound f ≡ Some (u, page)
    word : word_in st u page ≡ ptw.Leaving f
    past : p ≤ page

  mine : (f : ℕ) → has fs f ≡ true → IsMine f
  mine f e = let word = taken_word keeps f e in
      let taken = word_taken (page_at (seen s) f).0 (page_at (seen s) f).1 f word in record {
        page = (page_at (seen s) f).1;
        its = λ i. (taken.1 i, (page_at (seen s) f).1);
        bound = word_bound (page_at (seen s) f).0 (page_at (seen s) f).1 f word
            ∙ (λ i. Some (taken.1 i, (page_at (seen s) f).1));
        word = cc;
        past = taken.2;
      }

  have_pages : HavePages (seen s) fs (λ f. page_at (seen s) f)
  have_pages = record {
    once = keeps.book.going_owned.once;
    each = λ f i. refl;
    alone = λ f g i j a b. leaving_same f g (sym (taken_word keeps f i) ∙ ((λ t. word_in st (a t) (b t))
        ∙ taken_word keeps g j));
  }

  has_places : HasPlaces st
  has_places = record {
    tables = keeps.store.kept.places;
    within = λ v q f e. bound_within s f (v, q) (word_bound v q f e);
  }

  -- ---- which pages are past the words

  first_low : p ≤ first
  first_low = omega arith

  in_past : (q : ℕ) → first ≤ q → word_in st u q ≢ ptw.Null → has ps q ≡ true
  in_past q le n = let inner = (word_within st.ast u q n).1 in
      member_link ps q (range_has first (length (table_of st.ast u) - first) q le (omega arith))

  past_in : (q : ℕ) → has ps q ≡ true → first ≤ q
  past_in q i = (in_range_is first (length (table_of st.ast u) - first) q (link_member ps q i)).0

  unpast : (q : ℕ) → q < first → has ps q ≡ false
  unpast q lt = elim (cases_Bool (has ps q)) [ inl i ↦ (let le = past_in q i in absurd (omega arith)) | inr i ↦ i ]

  page_is_its : {f : ℕ} → has fs f ≡ true → (m : IsMine f) → (page_in st f).1 ≡ m.page
  page_is_its {f} e m = cc (binding_is s f)

  -- a page past the words doesn't stay; the one that they cut does where it has a word that isn't zero then
  test_past : {f : ℕ} → has fs f ≡ true → (m : IsMine f) → first ≤ m.page → test f ≡ false
  test_past {f} e m le = let same = page_is_its e m in
      let off : nat_lt (1024 * (page_in st f).1) size ≡ false = grind (arith, nat_tests) in rw off

  test_cut : {f : ℕ} → has fs f ≡ true → (m : IsMine f) → m.page ≡ p → at ≢ 0
      → test f ≡ not (are_zeros (words_in (cut st.pages f at) f))
  test_cut {f} e m is n = let same = page_is_its e m in
      let on : nat_lt (1024 * (page_in st f).1) size ≡ true = grind (arith, nat_tests) in rw on

  -- ---- the store, once the page that the words cut is cut

  cut_in : at ≢ 0 → IsCut st mid u p at
  cut_in n = let is = ap (λ (b : Bool). cond b st (with_cut st u p at (word_in st u p))) (ne_eqb at 0 n) in
      rw is (page_cut st u p at has_places (λ f e. word_bound u p f e))

  mid_same : at ≡ 0 → mid ≡ st
  mid_same e = cc

  begun : IsBegun st mid u p
  begun = elim (eqb_tells at 0) [ inl e ↦ rw (mid_same e.1) (begun_same u p has_places) | inr m ↦ (cut_in m.1).begun ]

  mid_leaving : (q g : ℕ) → word_in mid u q ≡ ptw.Leaving g → word_in st u q ≡ ptw.Leaving g
  mid_leaving q g e = elim (eqb_tells q p) [
    | inl i ↦ ap (λ (x : ℕ). word_in st u x) i.1 ∙ begun.leaving g (cc)
    | inr m ↦ sym (begun.words u q (λ a b. m.1 b)) ∙ e
  ]

  -- a page past the words has the word that it had
  mid_past : (q : ℕ) → first ≤ q → word_in mid u q ≡ word_in st u q
  mid_past q le = elim (eqb_tells q p) [
    | inl i ↦ ap (λ (x : Storage). word_in x u q) (mid_same (omega arith))
    | inr m ↦ begun.words u q (λ a b. m.1 b)
  ]

  over : AreCutOff mid (cut_store s c (process_at s c) path size) u ps
  over = pages_cut_off mid u ps begun.has_places

  -- ---- frames

  abbrev cut_off : Storage
  cut_off = cut_store s c (process_at s c) path size

  reads_now : (g : ℕ) → read_in cut_off g ≡ read_in st g
  reads_now g = over.reads g (λ q e. mid_read ∙ still q (mid_leaving q g e)) ∙ mid_read
    where
      still : (q : ℕ) → word_in st u q ≡ ptw.Leaving g → read_in st g ≡ None
      still q e = bound_unread keeps g (word_bound u q g e)

      mid_read : read_in mid g ≡ read_in st g
      mid_read = begun.reads g (λ e. still p e)

  -- where the page of a frame that the job took is then
  record IsLeft (f : ℕ) (m : IsMine f) : Type 0 where
    bound : bound_in cut_off f ≡ cond (not (test f)) None (bound_in st f)
    word : word_in cut_off u m.page ≡ cond (test f) (ptw.Here f) ptw.Null

  left_past : (f : ℕ) → has fs f ≡ true → (m : IsMine f) → first ≤ m.page → IsLeft f m
  left_past f e m le = let off = test_past e m le in
      let listed = in_past m.page le (λ n. (let no : ptw.Leaving f ≡ ptw.Null = sym m.word ∙ n in cc)) in record {
        bound = rw off (over.left f m.page listed (mid_past m.page le ∙ m.word));
        word = rw off (over.nulls m.page listed);
      }

  left_cut : {f : ℕ} → has fs f ≡ true → (m : IsMine f) → m.page < first → IsLeft f m
  left_cut {f} e m lt = elim (cases_Bool (are_zeros (words_in (cut st.pages f at) f))) [
    | inl z ↦ record {
      bound = rw (told ∙ ap not z) (over.free f (c_in.zeros f word z).1);
      word = rw (told ∙ ap not z) (same_word ∙ (c_in.zeros f word z).0);
    }
    | inr z ↦ record {
      bound = rw (told ∙ ap not z) (over.bound f stays_on ∙ (c_in.kept f word z).1);
      word = rw (told ∙ ap not z) (same_word ∙ (c_in.kept f word z).0);
    }
  ]
    where
      some : at ≢ 0
      some z = let past = m.past in omega (arith, lt, past, z)

      is : m.page ≡ p
      is = let past = m.past in omega (arith, lt, past)

      c_in : IsCut st mid u p at
      c_in = cut_in some

      word : word_in st u p ≡ ptw.Leaving f
      word = ap (λ (x : ℕ). word_in st u x) (sym is) ∙ m.word

      told : test f ≡ not (are_zeros (words_in (cut st.pages f at) f))
      told = test_cut e m is some

      same_word : word_in cut_off u m.page ≡ word_in mid u p
      same_word = over.words u m.page (λ i. unpast m.page lt) ∙ ap (λ (x : ℕ). word_in mid u x) is

      stays_on : (q : ℕ) → has ps q ≡ true → word_in mid u q ≢ ptw.Leaving f
      stays_on q i w = let was = word_bound u q f (mid_leaving q f w) in
          let same = (page_is u q u m.page (sym was ∙ m.bound)).1 in
          let le = past_in q i in omega (arith, same, le, lt)

  is_left : {f : ℕ} → has fs f ≡ true → (m : IsMine f) → IsLeft f m
  is_left {f} e m = elim (leb_tells first m.page) [ inl x ↦ left_past f e m x.1 | inr x ↦ left_cut e m x.1 ]

  bound_now : (g : ℕ) → bound_in cut_off g ≡ (all_left s c (process_at s c) path size).bound g
  bound_now g = rw (left_bound (seen s) test fs g) (elim (cases_Bool (has fs g)) [
    | inl e ↦ rw e (is_left e (mine g e)).bound
    | inr e ↦ rw e (over.bound g (λ q i w. not_both (word_taken u q g (mid_leaving q g w)).0 e)
        ∙ begun.bound g (λ w. not_both (word_taken u p g w).0 e))
  ])

  -- ---- words

  -- no frame that the job took has the page
  left_same : (w q : ℕ) → ((f : ℕ) → word_in st w q ≢ ptw.Leaving f)
      → (all_left s c (process_at s c) path size).words w q ≡ word_in st w q
  left_same w q n = left_other (seen s) test fs w q have_pages (λ f i a b. n f (rw (← a, ← b) (taken_word keeps f i)))

  left_its : {f : ℕ} → has fs f ≡ true → (m : IsMine f)
      → (all_left s c (process_at s c) path size).words u m.page ≡ cond (test f) (ptw.Here f) ptw.Null
  left_its {f} e m = (λ t. (all_left s c (process_at s c) path size).words (sym m.its t).0 (sym m.its t).1)
      ∙ left_this (seen s) test fs f have_pages e

  reads_none : (f q : ℕ) → p ≤ q → (all_left s c (process_at s c) path size).reads f ≡ Some (u, q) → ⊥
  reads_none f q le e = not_read f q (cc (left_reads (seen s) test fs)) le

  -- a page of another segment, or before the words, is as it was
  word_elsewhere : (w q : ℕ) → (w ≡ u → q < p) → word_in cut_off w q ≡ word_in st w q
  word_elsewhere w q n = over.words w q (λ e. unpast q (omega (arith, n e)))
      ∙ begun.words w q (λ a b. (omega (arith, n a)))

  -- a page of the segment that is in no frame
  quiet_word : (q : ℕ) → p ≤ q → ((f : ℕ) → word_in st u q ≢ ptw.Leaving f) → names (word_in st u q) ≡ None
      → (word_in cut_off u q ≡ word_in st u q) ⊎ (word_in cut_off u q ≡ ptw.Null)
  quiet_word q le n none = elim (cases_Bool (has ps q)) [
    | inl i ↦ inr (over.nulls q i)
    | inr i ↦ inl (over.words u q (λ e. i) ∙ mid_word)
  ]
    where
      mid_word : word_in mid u q ≡ word_in st u q
      mid_word = elim (eqb_tells q p) [
        | inl i ↦ elim (eqb_tells at 0) [
          | inl z ↦ ap (λ (x : Storage). word_in x u q) (mid_same z.1)
          | inr m ↦ rw i.1 ((cut_in m.1).quiet (λ f e. n f (rw i.1 e)))
        ]
        | inr m ↦ begun.words u q (λ a b. m.1 b)
      ]

  abbrev IsQuiet : ℕ → ℕ → Type 0
  IsQuiet w q = (word_in cut_off w q ≡ (all_left s c (process_at s c) path size).words w q)
      ⊎ ((names ((all_left s c (process_at s c) path size).words w q) ≡ None) × (names (word_in cut_off w q) ≡ None)
      × ((f : ℕ) → (all_left s c (process_at s c) path size).reads f ≢ Some (w, q)))

  quiet_past : (q : ℕ) → p ≤ q → (x : Ptw) → word_in st u q ≡ x → IsQuiet u q
  quiet_past q le ptw.Null e = let none : (f : ℕ) → word_in st u q ≢ ptw.Leaving f = λ f i. cc in
      inl (elim (quiet_word q le none (ap names e)) [
        | inl i ↦ i ∙ sym (left_same u q none)
        | inr i ↦ i ∙ (sym e ∙ sym (left_same u q none))
      ])
  quiet_past q le (ptw.Out r) e = let none : (f : ℕ) → word_in st u q ≢ ptw.Leaving f = λ f i. cc in
      elim (quiet_word q le none (ap names e)) [
        | inl i ↦ inl (i ∙ sym (left_same u q none))
        | inr i ↦ inr (cc (left_same u q none), ap names i, λ f. reads_none f q le)
      ]
  quiet_past q le (ptw.Here f) e = absurd (not_here f q e le)
  quiet_past q le (ptw.Leaving f) e = inl (rw same at ((is_left listed (mine f listed)).word
      ∙ sym (left_its listed (mine f listed))))
    where
      listed : has fs f ≡ true
      listed = (word_taken u q f e).0

      same : (mine f listed).page ≡ q
      same = (page_is u (mine f listed).page u q (sym (mine f listed).bound ∙ word_bound u q f e)).1

  quiet_now : QuietWords (all_left s c (process_at s c) path size) (λ w q. word_in cut_off w q)
  quiet_now = record {
    each = λ w q. elim (eqb_tells w u) [
      | inl e ↦ elim (leb_tells p q) [
        | inl x ↦ rw e.1 (quiet_past q x.1 (word_in st u q) refl)
        | inr x ↦ inl (word_elsewhere w q (λ i. x.1) ∙ sym (left_same w q (λ f i.
            (omega (arith, (word_taken w q f i).2)))))
      ]
      | inr m ↦ inl (word_elsewhere w q (λ i. absurd (m.1 i)) ∙ sym (left_same w q (λ f i. m.1 (word_taken w q f i).1)))
    ];
  }

  -- ---- what is lost is in no frame

  abbrev words : ℕ → ℕ → ℕ
  words = without_words (flat_of s).words u size

  -- a page before the words is whole
  whole_before : (q : ℕ) → q < p → is_lost words u size q ≡ false
  whole_before q less = let past : nat_le size (1024 * q) ≡ false = grind (arith, nat_tests) in
      let in_it : nat_lt size (1024 * q + 1024) ≡ false = grind (arith, nat_tests) in rw (past, in_it) refl

  -- the page that the words cut keeps a word where it stays
  kept_word : (f : ℕ) → (seen s).bound f ≡ Some (u, p) → are_zeros (words_in (cut st.pages f at) f) ≡ false
      → is_zero_page words u p ≡ false
  kept_word f bound nonzero = elim (cases_Bool (is_zero_page words u p)) [
    | inl e ↦ absurd (not_both (cut_zeros st f at (zero_before e)) nonzero)
    | inr e ↦ e
  ]
    where
      active : is_active st.ast u ≡ true
      active = let place = keeps.store.kept.paged.bound f u p bound in active_at st.ast place.0 u place.1

      zero_before : is_zero_page words u p ≡ true → (i : ℕ) → i < at → get_or (words_in st.pages f) i 0 ≡ 0
      zero_before z i less = ap (λ (x : ℕ). get_or (words_in st.pages f) x 0)
          (let same : i ≡ (1024 * p + i) % 1024 = omega arith in same)
          ∙ (cc (
            bound_word s keeps u active f (1024 * p + i) (bound ∙ ap (λ (x : ℕ). Some (u, x))
                (let same : p ≡ (1024 * p + i) / 1024 = omega (arith, less) in same)),
            before,
            zero_words words u p i z (omega (arith, less)),
          ))
        where
          before : (eqb u u && nat_le size (1024 * p + i)) ≡ false
          before = let past : nat_le size (1024 * p + i) ≡ false = grind (arith, nat_tests) in
              rw past (and-false (eqb u u))

  -- a page that is in a frame then isn't lost
  stays_whole : {f q : ℕ} → has fs f ≡ true → (m : IsMine f) → m.page ≡ q → test f ≡ true
      → is_lost words u size q ≡ false
  stays_whole {f} {q} e m is on = elim (leb_tells first q) [
    | inl x ↦ absurd (not_both on (test_past e m (omega arith)))
    | inr x ↦ (let lt = x.1 in let past = m.past in let same : q ≡ p = omega arith in
        rw same (cut_whole (is ∙ same) (λ z. (omega arith))))
  ]
    where
      cut_whole : m.page ≡ p → at ≢ 0 → is_lost words u size p ≡ false
      cut_whole same some = let past : nat_le size (1024 * p) ≡ false = grind (arith, nat_tests) in
          let in_it : nat_lt size (1024 * p + 1024) ≡ true = grind (arith, nat_tests) in
          rw (
            past,
            in_it,
            kept_word f (cc)
                (not-true (are_zeros (words_in (cut st.pages f at) f)) (sym (test_cut e m same some) ∙ on)),
          ) refl

  bound_whole : (f q : ℕ) → (seen s).bound f ≡ Some (u, q) → (has fs f ≡ true → test f ≡ true)
      → is_lost words u size q ≡ false
  bound_whole f q bound stays_on = elim (leb_tells p q) [
    | inl x ↦ (let listed = (word_taken u q f (frame_word f q bound x.1)).0 in stays_whole listed (mine f listed)
        (page_is u (mine f listed).page u q (sym (mine f listed).bound ∙ bound)).1 (stays_on listed))
    | inr x ↦ whole_before q x.1
  ]

  -- a frame that is bound then was bound so, and isn't one that the job took and let go
  bound_was : (f q : ℕ) → bound_in cut_off f ≡ Some (u, q)
      → ((seen s).bound f ≡ Some (u, q)) × (has fs f ≡ true → test f ≡ true)
  bound_was f q e = let now = sym (bound_now f ∙ left_bound (seen s) test fs f) ∙ e in
      elim (cases_Bool (has fs f && not (test f))) [
        | inl y ↦ absurd (none_some (rw y at now))
        | inr n ↦ (rw n at now, λ listed. not-false (test f) (rw listed at n))
      ]

  loses_none : LosesNoPage (flat_of s) (shown (seen (with_owner (effected s (process_at s c)
      (command.Truncate path size)) None))) u size
  loses_none f q e = by (bound_in cut_off f) (read_in cut_off f) refl refl e
    where
      by : (x y : Option (ℕ × ℕ)) → bound_in cut_off f ≡ x → read_in cut_off f ≡ y
          → page_of (use_of (λ v r. word_in cut_off v r) x y) ≡ Some (u, q) → is_lost words u size q ≡ false
      by None None b r i = cc
      by None (Some page) b r i = elim (leb_tells p q) [
        | inl x ↦ absurd (not_read f q (cc (reads_now f)) x.1)
        | inr x ↦ whole_before q x.1
      ]
      by (Some page) y b r i = let was = bound_was f q (cc (page_bound (λ v j. word_in cut_off v j) page y)) in
          bound_whole f q was.0 was.1

  out : IsOut s c (command.Truncate path size)
  out = by (segment_at (flat_of s).nodes path) refl
    where
      by : (x : Result Node Reply) → segment_at (flat_of s).nodes path ≡ x
          → OfNode (λ n. LosesNoPage (flat_of s) (shown (seen (with_owner (effected s (process_at s c)
          (command.Truncate path size)) None))) n.uid size) x
      by (Err r) e = tt
      by (Ok n) e = rw (← (path_uid path n keeps (only_found (node_at (flat_of s).nodes path) n e).0)) loses_none

  -- So a `truncate` may take effect.
  pub truncate_rests : Rests s c (command.Truncate path size)
  truncate_rests = record {
    settled = record {
      cut = none_cut (cut_of_owner s.owner) (λ j n e. (let led = cut_led s (process_at s c)
          (command.Truncate path size) keeps h j n e in h.just.its_descriptors j n led.0 led.1 led.2));
      bound = bound_now;
      reads = reads_now;
      words = quiet_now;
      places = over.places ∙ begun.places;
      links = over.links ∙ begun.links;
    };
    out = out;
  }

-- ---- What is left of a command's premises follows from what its job took.

pub commit_rests : {s : State} (c : ℕ) → Keeps s → (cmd : Command) → IsTakenFor s (process_at s c) cmd
    → RestsCommit s c (Some cmd)
commit_rests {s} c keeps (command.Acl path row m) h = acl_rests s c keeps path row m h
commit_rests {s} c keeps (command.Terminate number) h = terminate_rests s c keeps number h
commit_rests {s} c keeps command.End h = end_rests s c keeps h
commit_rests {s} c keeps (command.Truncate path words) h = truncate_rests s c path words keeps h
commit_rests {s} c keeps (command.Delete path) h = delete_rests s c path keeps h
commit_rests c keeps _ h = tt
