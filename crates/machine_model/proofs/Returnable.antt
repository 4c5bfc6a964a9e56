-- What the owner's job has taken may come back: its pages one after the other, and then its descriptors.
use Rattle.machine_model.proofs.Kept.{◌≡◌, ◌<◌, ℕ, suc, true, false, List, [], ◌∷◌, length, Option, Some, None, inr, refl, sym, ap, subst, ◌∙◌, length-set, Frame, bound_page, frame_at, is_bound, Ptw, frame_in, Sdw, leads, leads_at, place_of, sdws_at, word_of, has, CutDescriptor, page_at, AreApart, AreDistinct, has_cut, names, seen, here_if, with_here, with_relink, AreThere, HadRights, Keeps, cut_of_owner, descriptor_of, frames_of_owner, IsLeaving, IsRelinkable, MayComeBack, MayRelink, with_all_here, is_cut_at, State, Storage, AreNumbered, IsWorking, has_head, has_tail, not_both, or_parts, Frame as frame, Ptw as ptw, Sdw as sdw, jobs_page_or_zero as page_or_zero, active_place, going_word, map_list, cut_at_same, by_places, descriptors_put, not_null, words_put, relink_there, or_true}

-- ---- pages

-- a frame has a page whose word says that it leaves it
record Leaves (st : Storage) (f : ℕ) : Type 0 where
  page : ℕ × ℕ
  bound : bound_page (frame_in st.pages f) ≡ Some page
  word : word_of st.ast page.0 page.1 ≡ ptw.Leaving f

abbrev AllLeave : Storage → List ℕ → Type 0
AllLeave st [] = Unit {0}
AllLeave st (f ∷ fs) = Leaves st f × AllLeave st fs

pub bound_is : (x : Frame) (page : ℕ × ℕ) → bound_page x ≡ Some page → is_bound x ≡ true
bound_is (frame.Bound u p used modified) page e = refl
bound_is _ page e = cc

leaving_is : {st : Storage} {f : ℕ} → Leaves st f → IsLeaving st f
leaving_is {st} {f} h = assumption (
  bound_is (frame_at st.pages.core f) h.page h.bound,
  ap (λ (page : ℕ × ℕ). word_of st.ast page.0 page.1) (ap page_or_zero h.bound) ∙ h.word,
)

here_is : (st : Storage) (f : ℕ) (page : ℕ × ℕ) → bound_page (frame_in st.pages f) ≡ Some page
    → with_here st f ≡ here_if st f (Some page)
here_is st f page e = cc

-- the others still leave once the page of one frame is back
others_leave : {st : Storage} {f : ℕ} (fs : List ℕ) → length st.ast.tables ≡ length st.ast.entries → (h : Leaves st f)
    → has fs f ≡ false → AllLeave st fs → AllLeave (here_if st f (Some h.page)) fs
others_leave [] tables h once all = tt
others_leave {st} {f} (g ∷ gs) tables h once all = (
  record { page = all.0.page; bound = all.0.bound; word = still },
  others_leave gs tables h (or_parts _ _ once).1 all.1,
)
  where
    other : all.0.page.0 ≡ h.page.0 → all.0.page.1 ≡ h.page.1 → ⊥
    other a b = let both : ptw.Leaving g ≡ ptw.Leaving f = sym all.0.word ∙ (cc) in
        let same : g ≡ f = cc in not_both (subst (λ (x : ℕ). has (g ∷ gs) x ≡ true) same (has_head g gs)) once

    still : word_of (here_if st f (Some h.page)).ast all.0.page.0 all.0.page.1 ≡ ptw.Leaving g
    still = words_put st.ast h.page.0 h.page.1 (ptw.Here f) tables (not_null f h.word (inr refl)) all.0.page.0
        all.0.page.1 ∙ by_places (λ (x : Ptw). x ≡ ptw.Leaving g) (λ x y. word_of st.ast x y) h.page.0 h.page.1
        (ptw.Here f) all.0.page.0 all.0.page.1 (λ a b. absurd (other a b)) (λ m. all.0.word)

all_come_back : (st : Storage) (fs : List ℕ) → length st.ast.tables ≡ length st.ast.entries → AreDistinct fs
    → AllLeave st fs → MayComeBack st fs
all_come_back st [] tables once all = tt
all_come_back st (f ∷ fs) tables once all = (
  leaving_is all.0,
  rw (here_is st f all.0.page all.0.bound) (all_come_back (here_if st f (Some all.0.page)) fs
      (length-set st.ast.tables (place_of st.ast.entries all.0.page.0) _ ∙ tables) once.1
      (others_leave fs tables all.0 once.0 all.1)),
)

-- ---- descriptors

abbrev AllRelinkable : Storage → List CutDescriptor → Type 0
AllRelinkable st [] = Unit {0}
AllRelinkable st (d ∷ ds) = IsRelinkable st d × AllRelinkable st ds

-- the others may still come back once one descriptor is
others_relink : (st : Storage) (d : CutDescriptor) (ds : List CutDescriptor) → d.process < length st.links.descriptors
    → d.number < length (sdws_at st.links.descriptors d.process) → has_cut ds d.process d.number ≡ false
    → AllRelinkable st ds → AllRelinkable (with_relink st d) ds
others_relink st d [] outer inner apart all = tt
others_relink st d (e ∷ es) outer inner apart all = (
  assumption still,
  others_relink st d es outer inner
      (or_parts (is_cut_at d.process d.number e) (has_cut es d.process d.number) apart).1 all.1,
)
  where
    word : Sdw
    word = sdw.Present (place_of st.ast.entries d.uid) d.mode d.pages

    still : leads_at (with_relink st d).links.descriptors e.process e.number ≡ None
    still = ap leads (descriptors_put st.links (with_relink st d).links.trailers d.process d.number word outer inner
        e.process e.number) ∙ by_places (λ (x : Sdw). leads x ≡ None) (λ a b. descriptor_of st.links a b) d.process
        d.number word e.process e.number (λ a b. cc (cut_at_same e)) (λ m. all.0.cut)

all_relink : (st : Storage) (ds : List CutDescriptor) → AreApart ds → AreThere st ds → AllRelinkable st ds
    → MayRelink st ds
all_relink st [] apart there all = tt
all_relink st (d ∷ ds) apart there all = (
  all.0,
  all_relink (with_relink st d) ds apart.1 (relink_there st d ds there.1)
      (others_relink st d ds there.0.0 there.0.1 apart.0 all.1),
)

-- ---- page tables alone differ once the pages are back

abbrev with_tables : Storage → List (List Ptw) → Storage
with_tables st tables = record st { ast = record st.ast { tables = tables } }

here_tables : (st : Storage) (f : ℕ) (o : Option (ℕ × ℕ)) → (tables : List (List Ptw))
    × (here_if st f o ≡ with_tables st tables)
here_tables st f None = (st.ast.tables, refl)
here_tables st f (Some page) = ((here_if st f (Some page)).ast.tables, refl)

all_here_tables : (st : Storage) (fs : List ℕ) → (tables : List (List Ptw))
    × (with_all_here st fs ≡ with_tables st tables)
all_here_tables st [] = (st.ast.tables, refl)
all_here_tables st (f ∷ fs) = let rest = all_here_tables (with_here st f) fs in (
  rest.0,
  cc ((here_tables st f (bound_page (frame_in st.pages f))).1),
)

relink_tables : (st : Storage) (tables : List (List Ptw)) (ds : List CutDescriptor) → AllRelinkable st ds
    → AllRelinkable (with_tables st tables) ds
relink_tables st tables [] all = tt
relink_tables st tables (d ∷ ds) all = (assumption, relink_tables st tables ds all.1)

there_tables : (st : Storage) (tables : List (List Ptw)) (ds : List CutDescriptor) → AreThere st ds
    → AreThere (with_tables st tables) ds
there_tables st tables [] there = tt
there_tables st tables (d ∷ ds) there = (there.0, there_tables st tables ds there.1)

-- ---- what a machine keeps of them

module _ (s : State) (keeps : Keeps s) where
  frame_leaves : (f : ℕ) → has (frames_of_owner s.owner) f ≡ true → Leaves s.store f
  frame_leaves f h = record {
    page = page_at (seen s) f;
    bound = sym (map_list bound_page s.store.pages.core.frames f frame.Free)
        ∙ keeps.book.tied.back f (page_at (seen s) f).0 (page_at (seen s) f).1 (ap names word);
    word = word;
  }
    where
      word : word_of s.store.ast (page_at (seen s) f).0 (page_at (seen s) f).1 ≡ ptw.Leaving f
      word = going_word f keeps.book (keeps.book.going_owned.frames f ∙ h)

  frames_leave : (fs : List ℕ) → ((f : ℕ) → has fs f ≡ true → Leaves s.store f) → AllLeave s.store fs
  frames_leave [] each = tt
  frames_leave (f ∷ fs) each = (each f (has_head f fs), frames_leave fs (λ g h. each g (has_tail f fs g h)))

  -- The pages that the owner's job took may come back, one after the other.
  pub pages_return : MayComeBack s.store (frames_of_owner s.owner)
  pages_return = all_come_back s.store (frames_of_owner s.owner) keeps.store.kept.places keeps.book.going_owned.once
      (frames_leave (frames_of_owner s.owner) frame_leaves)

  -- a descriptor that was cut leads to no segment
  unlinked : (k n : ℕ) → has_cut (cut_of_owner s.owner) k n ≡ true → (seen s).linked k n ≡ None
  unlinked k n h = by ((seen s).linked k n) refl
    where
      by : (x : Option ℕ) → (seen s).linked k n ≡ x → x ≡ None
      by None e = refl
      by (Some u) e = absurd (let no : false ≡ true = sym (cc) ∙ (keeps.book.going_owned.cuts k n ∙ h) in cc)

  -- and to no place
  leads_nowhere : (k n : ℕ) → (seen s).linked k n ≡ None → leads_at s.store.links.descriptors k n ≡ None
  leads_nowhere k n h = by (descriptor_of s.store.links k n) refl
    where
      by : (x : Sdw) → descriptor_of s.store.links k n ≡ x → leads x ≡ None
      by sdw.Fault e = refl
      by (sdw.Present aste mode pages) e = let at = keeps.store.kept.linked.known k n aste (ap leads e) in cc

  relinkable : (ds : List CutDescriptor) → AreThere s.store ds
      → HadRights s.store.accounts.nodes s.store.whos ds → AreNumbered s.store.links.known ds
      → ((k n : ℕ) → has_cut ds k n ≡ true → (seen s).linked k n ≡ None) → AllRelinkable s.store ds
  relinkable [] there rights numbered none = tt
  relinkable (d ∷ ds) there rights numbered none = (
    record {
      process = rw (← keeps.store.kept.linked.lists.processes) there.0.0;
      active = (place_of s.store.ast.entries d.uid, (active_place s.store.ast d.uid there.0.2).1);
      known = numbered.0;
      cut = leads_nowhere d.process d.number (none d.process d.number (cc (cut_at_same d)));
      right = record { mode_is = λ n h. rights.modes 0 d n refl h; pages_are = λ n h. rights.lengths 0 d n refl h };
    },
    relinkable ds there.1 (record {
      modes = λ i e n at h. rights.modes (suc i) e n at h;
      lengths = λ i e n at h. rights.lengths (suc i) e n at h;
    }) numbered.1 (λ k n h. none k n (rw h (or_true (is_cut_at k n d)))),
  )

  -- The descriptors that it cut may come back after them.
  pub descriptors_return : IsWorking s
      → MayRelink (with_all_here s.store (frames_of_owner s.owner)) (cut_of_owner s.owner)
  descriptors_return working = rw (← here.1) at (all_relink (with_tables s.store here.0) (cut_of_owner s.owner)
      keeps.book.going_owned.apart (there_tables s.store here.0 (cut_of_owner s.owner) keeps.cut)
      (relink_tables s.store here.0 (cut_of_owner s.owner) (relinkable (cut_of_owner s.owner) keeps.cut keeps.rights
      working.numbered unlinked)))
    where
      here : (tables : List (List Ptw)) × (with_all_here s.store (frames_of_owner s.owner) ≡ with_tables s.store tables)
      here = all_here_tables s.store (frames_of_owner s.owner)
