-- The pages of a node that is deleted: to drop them one after the other and to give all its records back at once come
-- to the same, where the frames that they were in are free.
use Rattle.machine_tables.proofs.Prelude.{◌≡◌, ◌≢◌, ◌<◌, ◌≤◌, ◌+◌, ◌-◌, ℕ, suc, zero, Bool, true, false, cond, length, List, [], ◌∷◌, ◌++◌, get_or, set, ext_get_or, replicate, Option, Some, None, inl, inr, refl, sym, ◌∙◌, arith, range_with_len, cases_eq, cases_lt, ne_eqb, get_or-set_other, get_or-set_same, length-set, set-set, Ptw, Here, Leaving, Null, Out, Free, Core, with_record, ActiveSegs, deactivated, table_at, Home, erased, framed, freed, unstored, Plain, entry_of, file_map_of, filed, flags_of, vtoc_of, place_of, table_of, word_of, worded, Paged, page_cut, pages_cut, pages_in, frames_freed, Storage, word_within, OwnsAll, freed_length, given_twice, has_append, or_cases, or_left, or_right, eqb_self, Custody_has as has, VtocEntry as Entry}
use lib.Seq.{set_out}
use Rattle.machine_tables.proofs.TakeLaws.{word_other, word_put}

-- ---- flags

-- the records of a file map, one of which was given back before
freed_less : (flags : List Bool) (places : List (Option ℕ)) (p r : ℕ) → get_or places p None ≡ Some r
    → freed (set flags r false) (set places p None) ≡ freed flags places
freed_less flags (None ∷ places) (suc p) r at = freed_less flags places p r at
freed_less flags (Some s ∷ places) (suc p) r at =
    cc (given_twice flags r s, freed_less (set flags s false) places p r at)
freed_less flags _ _ r at = cc

-- ---- one page

-- the home is an entry that is used, on a volume that is there
pub record IsUsed (s : Plain) (home : Home) : Type 0 where
  pub volume : home.volume < length s.vtocs
  pub records : home.volume < length s.records
  pub entry : home.entry < length (vtoc_of s home.volume)
  pub used : Entry
  pub is : entry_of s home ≡ Some used

module _ (s : Plain) (home : Home) (p r : ℕ) (used : IsUsed s home) (at : filed s home p ≡ Some r) where
  abbrev less : Plain
  less = unstored s home p

  pub flags_less : flags_of less home.volume ≡ set (flags_of s home.volume) r false
  flags_less = rw (get_or-set_same, used.records, at)

  pub vtoc_less : vtoc_of less home.volume
      ≡ set (vtoc_of s home.volume) home.entry (with_record (entry_of s home) p None)
  vtoc_less = rw (get_or-set_same, used.volume)

  pub entry_less : entry_of less home ≡ with_record (entry_of s home) p None
  entry_less = rw (vtoc_less, get_or-set_same, used.entry)

  map_less : file_map_of less home ≡ set (file_map_of s home) p None
  map_less = rw (entry_less, used.is)

  -- to give all records back afterwards gives the same
  pub erased_less : erased less home ≡ erased s home
  erased_less = grind (arith, set-set, flags_less, map_less, freed_less, vtoc_less)

  -- the home is used still, and names the same for other pages
  pub used_less : IsUsed less home
  used_less = grind (arith, length-set, vtoc_less, entry_less)

  pub filed_less : (q : ℕ) → q ≢ p → filed less home q ≡ filed s home q
  filed_less q ne = rw (map_less, get_or-set_other)

-- ---- frames

-- the frame of a page that is on its way out
abbrev pub leaving : Ptw → List ℕ
leaving Null = []
leaving (Out r) = []
leaving (Here f) = []
leaving (Leaving f) = f ∷ []

abbrev pub leaving_in : ActiveSegs → ℕ → List ℕ → List ℕ
leaving_in ast uid [] = []
leaving_in ast uid (p ∷ ps) = leaving (word_of ast uid p) ++ leaving_in ast uid ps

freed_unstored : (s : Plain) (home : Home) (p : ℕ) (fs : List ℕ)
    → frames_freed (unstored s home p) fs ≡ unstored (frames_freed s fs) home p
freed_unstored s home p [] = refl
freed_unstored s home p (f ∷ fs) = freed_unstored (framed s f Free) home p fs

pub freed_rest : (s : Plain) (fs : List ℕ) → frames_freed s fs ≡ record s { core = (frames_freed s fs).core }
freed_rest s [] = refl
freed_rest s (f ∷ fs) = freed_rest (framed s f Free) fs

used_core : (s : Plain) (home : Home) (core : Core) → IsUsed s home → IsUsed (record s { core = core }) home
used_core s home core u = grind arith

-- a page that is dropped first, where the frames are freed and all records given back afterwards
erased_freed : (s : Plain) (home : Home) (p r : ℕ) (fs : List ℕ) → IsUsed s home → filed s home p ≡ Some r
    → erased (frames_freed (unstored s home p) fs) home ≡ erased (frames_freed s fs) home
erased_freed s home p r fs u at = grind (arith, freed_unstored, freed_rest, erased_less, used_core)

-- ---- the words of a page table

pub table_in : (ast : ActiveSegs) (u p : ℕ) → word_of ast u p ≢ Null → p < length (table_of ast u)
table_in ast u p ne = (word_within ast u p ne).1

-- ---- all pages, one after the other

-- each page that has a record is one that the file map names
pub record IsNamed (x : Paged) (home : Home) (uid : ℕ) : Type 0 where
  pub used : IsUsed x.pages home
  pub named : (q : ℕ) → word_of x.ast uid q ≢ Null → (r : ℕ) × (filed x.pages home q ≡ Some r)

-- once a page is dropped
pub record Drops (x y : Paged) (home : Home) (uid p : ℕ) : Type 0 where
  pub named : IsNamed y home uid
  pub words : (q : ℕ) → q ≢ p → word_of y.ast uid q ≡ word_of x.ast uid q
  pub erased_is : (fs : List ℕ) → erased (frames_freed y.pages fs) home
      ≡ erased (frames_freed x.pages (leaving (word_of x.ast uid p) ++ fs)) home

-- a page that has a record is dropped, and its frame is free, if it leaves one
some_drops : (x : Paged) (home : Home) (uid p : ℕ) (w : Ptw) (core : Core) → word_of x.ast uid p ≡ w → w ≢ Null
    → IsNamed x home uid
    → ((fs : List ℕ) → frames_freed (record x.pages { core = core }) fs ≡ frames_freed x.pages (leaving w ++ fs))
    → Drops x (record {
      pages = unstored (record x.pages { core = core }) home p;
      ast = worded x.ast uid p Null;
      stored = x.stored - 1;
    }) home uid p
some_drops x home uid p w core at some h frees =
    let free : Plain = record x.pages { core = core } in
    let ne : word_of x.ast uid p ≢ Null = λ e. some (sym at ∙ e) in
    let lt = table_in x.ast uid p ne in
    let its = h.named p ne in
    let used = used_core x.pages home core h.used in
    record {
      named = record {
        used = used_less free home p its.0 used its.1;
        named = λ q left. elim (cases_eq q p) [
          | inl same ↦ absurd (left (rw same (word_put x.ast uid p Null lt)))
          | inr other ↦ (let was = h.named q (λ none. left (word_other x.ast uid p q Null lt other ∙ none)) in
              (was.0, filed_less free home p its.0 used its.1 q other ∙ was.1))
        ];
      };
      words = λ q other. word_other x.ast uid p q Null lt other;
      erased_is = λ fs. cc (erased_freed free home p its.0 fs used its.1, frees fs);
    }

pub page_drops : (x : Paged) (home : Home) (uid p : ℕ) (w : Ptw) → word_of x.ast uid p ≡ w → IsNamed x home uid
    → Drops x (page_cut x home uid p w) home uid p
page_drops x home uid p Null at h = record { named = h; words = λ q other. refl; erased_is = λ fs. cc }
page_drops x home uid p (Leaving f) at h =
    some_drops x home uid p (Leaving f) (framed x.pages f Free).core at (λ no. cc) h (λ fs. refl)
page_drops x home uid p w at h = some_drops x home uid p w x.pages.core at (λ no. cc) h (λ fs. refl)

leaving_same : (x y : ActiveSegs) (uid from n : ℕ) → ((q : ℕ) → from ≤ q → word_of y uid q ≡ word_of x uid q)
    → leaving_in y uid (range_with_len from n) ≡ leaving_in x uid (range_with_len from n)
leaving_same x y uid from zero same = refl
leaving_same x y uid from (suc n) same =
    cc (same from (omega arith), leaving_same x y uid (from + 1) n (λ q le. same q (omega arith)))

-- to drop some pages of a segment in order and to give its records back is to free the frames and give them back
pub cut_erased : (x : Paged) (home : Home) (uid from n : ℕ) → IsNamed x home uid
    → erased (pages_cut x home uid (range_with_len from n)).pages home
    ≡ erased (frames_freed x.pages (leaving_in x.ast uid (range_with_len from n))) home
cut_erased x home uid from zero h = refl
cut_erased x home uid from (suc n) h =
    let drops = page_drops x home uid from (word_of x.ast uid from) refl h in
    let now = page_cut x home uid from (word_of x.ast uid from) in
    cc (
      cut_erased now home uid (from + 1) n drops.named,
      leaving_same x.ast now.ast uid (from + 1) n (λ q le. drops.words q (λ e. (omega arith))),
      drops.erased_is (leaving_in x.ast uid (range_with_len (from + 1) n)),
    )

-- ---- the table of a place that is inactive

deactivated_worded : (ast : ActiveSegs) (uid p : ℕ) (w : Ptw)
    → deactivated (worded ast uid p w) (place_of ast.entries uid) ≡ deactivated ast (place_of ast.entries uid)
deactivated_worded ast uid p w = (λ i. record (deactivated ast place) { tables = tables i })
  where
    place : ℕ
    place = place_of ast.entries uid

    table : List Ptw
    table = set (table_of ast uid) p w

    long : length (table_at (set ast.tables place table) place) ≡ length (table_at ast.tables place)
    long = elim (cases_lt place (length ast.tables)) [
      | inl lt ↦ rw (get_or-set_same, length-set)
      | inr le ↦ rw (set_out ast.tables place table le)
    ]

    tables : set (set ast.tables place table) place
        (replicate (length (table_at (set ast.tables place table) place)) Null)
        ≡ set ast.tables place (replicate (length (table_at ast.tables place)) Null)
    tables = rw (set-set, long)

page_inactive : (x : Paged) (home : Home) (uid p : ℕ) (w : Ptw)
    → (place_of (page_cut x home uid p w).ast.entries uid ≡ place_of x.ast.entries uid)
    × (deactivated (page_cut x home uid p w).ast (place_of x.ast.entries uid)
    ≡ deactivated x.ast (place_of x.ast.entries uid))
page_inactive x home uid p Null = (refl, refl)
page_inactive x home uid p w = (refl, deactivated_worded x.ast uid p Null)

pub cut_inactive : (x : Paged) (home : Home) (uid : ℕ) (ps : List ℕ)
    → deactivated (pages_cut x home uid ps).ast (place_of (pages_cut x home uid ps).ast.entries uid)
    ≡ deactivated x.ast (place_of x.ast.entries uid)
cut_inactive x home uid [] = refl
cut_inactive x home uid (p ∷ ps) =
    let one = page_inactive x home uid p (word_of x.ast uid p) in
    let now = page_cut x home uid p (word_of x.ast uid p) in
    cc (cut_inactive now home uid ps, one.0, one.1)

-- ---- frames that are freed in another order

freed_hand : (s : Plain) (fs : List ℕ) → (frames_freed s fs).core.hand ≡ s.core.hand
freed_hand s [] = refl
freed_hand s (f ∷ fs) = freed_hand (framed s f Free) fs

freed_at : (s : Plain) (fs : List ℕ) (g : ℕ) → g < length s.core.frames
    → get_or (frames_freed s fs).core.frames g Free ≡ cond (has fs g) Free (get_or s.core.frames g Free)
freed_at s [] g lt = refl
freed_at s (f ∷ fs) g lt = freed_at (framed s f Free) fs g (rw length-set lt) ∙ elim (cases_eq g f) [
  | inl same ↦ rw (← same, eqb_self g, get_or-set_same) (by (has fs g))
  | inr other ↦ rw (get_or-set_other, ne_eqb f g (λ e. other (sym e)))
]
  where
    by : (b : Bool) → cond b Free Free ≡ Free
    by b = grind arith

pub freed_alike : (s : Plain) (fs gs : List ℕ) → ((g : ℕ) → has fs g ≡ has gs g) → frames_freed s fs ≡ frames_freed s gs
freed_alike s fs gs same = freed_rest s fs
    ∙ ((λ i. record s { core = record { frames = frames i; hand = hand i } }) ∙ sym (freed_rest s gs))
  where
    frames : (frames_freed s fs).core.frames ≡ (frames_freed s gs).core.frames
    frames = ext_get_or Free (frames_freed s fs).core.frames (frames_freed s gs).core.frames
        (freed_length s fs ∙ sym (freed_length s gs)) (λ g lt.
        (let within : g < length s.core.frames = rw freed_length at lt in
        cc (freed_at s fs g within, freed_at s gs g within, same g)))

    hand : (frames_freed s fs).core.hand ≡ (frames_freed s gs).core.hand
    hand = freed_hand s fs ∙ sym (freed_hand s gs)

-- ---- the frames that a job has taken

both_ways : (a b : Bool) → (a ≡ true → b ≡ true) → (b ≡ true → a ≡ true) → a ≡ b
both_ways a b h1 h2 = grind arith

leaving_has : (w : Ptw) (g : ℕ) → has (leaving w) g ≡ true → w ≡ Leaving g
leaving_has w g h1 = grind (arith, ne_eqb)

leaving_there : (ast : ActiveSegs) (uid g from n : ℕ) → has (leaving_in ast uid (range_with_len from n)) g ≡ true
    → (p : ℕ) × (word_of ast uid p ≡ Leaving g)
leaving_there ast uid g from zero h = cc
leaving_there ast uid g from (suc n) h =
    elim (or_cases _ _ (rw has_append at h)) [
      | inl here ↦ (from, leaving_has (word_of ast uid from) g here)
      | inr rest ↦ leaving_there ast uid g (from + 1) n rest
    ]

there_leaving : (ast : ActiveSegs) (uid g from n p : ℕ) → from ≤ p → p < from + n → word_of ast uid p ≡ Leaving g
    → has (leaving_in ast uid (range_with_len from n)) g ≡ true
there_leaving ast uid g from zero p low high h = absurd (omega arith)
there_leaving ast uid g from (suc n) p low high h =
    has_append (leaving (word_of ast uid from)) (leaving_in ast uid (range_with_len (from + 1) n)) g
    ∙ elim (cases_eq from p) [
      | inl same ↦ or_left (has (leaving (word_of ast uid from)) g) _ (rw (same, h, eqb_self g))
      | inr other ↦ or_right _ _ (there_leaving ast uid g (from + 1) n p (omega arith) (omega arith) h)
    ]

pub owned_alike : (st : Storage) (uid : ℕ) (frames : List ℕ) → OwnsAll st uid frames → (g : ℕ)
    → has frames g ≡ has (leaving_in st.ast uid (range_with_len 0 (pages_in st.accounts.nodes uid))) g
owned_alike st uid frames owns g = grind (arith, both_ways, there_leaving, leaving_there)
