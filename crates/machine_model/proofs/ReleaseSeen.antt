-- Once a page has left its frame, just that page may be stored no more, and no volume has fewer free records.
use Rattle.machine_model.proofs.Laws.{◌≡◌, ◌≢◌, ℕ, zero, suc, Bool, true, false, ◌&&◌, is_some, List, [], ◌∷◌, get_or, set, Option, Some, None, ◌⊎◌, inl, inr, refl, sym, ap, ◌∙◌, ◌≤◌, arith, cond, count_by, eqb, le_refl, length, eqb_tells, length-set, count_by-le-length, sum_by-cons, volume_in, is_full, record_at, records_in, with_record, Home, Left, is_filed_at, record_of, words_in, flags_in, vtoc_in, home_of, is_filed, is_there, is_going_frame, full_then, stored_then, seen, left_of, page_in, with_left, Keeps, lacks_record, outline_of, home_in, State, Owner, frame_use, read_use, bound_page, has_head, not_both, VtocEntry as Entry, vtoc_entry_at as entry_at, Left as left, tied_uid_at as uid_at, FinishingMayRelease as MayRelease, finishing_page_of as page_of, outline_frame_in as frame_in, Frame as frame, position_or_len, Frame, store_frame, has_record, word_of, names, is_here, is_of, bare, is_active, page_is, false_from_ne_true, map_list, any_at, some_within, outline_reads_map_at as map_at, found, stored_is}

-- ---- What the outline of a machine shows of a page: whether it is in a frame, and whether it is stored.

of_page : (u p : ℕ) (x : Frame) → is_of u p x ≡ true → page_of x ≡ Some (u, p)
of_page u p (frame.Bound v q used modified) h = elim (eqb_tells v u) [
  | inl e ↦ elim (eqb_tells q p) [
    | inl i ↦ (λ j. Some (e.1 j, i.1 j))
    | inr n ↦ absurd (not_both h (rw (e.0, n.0) refl))
  ]
  | inr n ↦ absurd (not_both h (rw n.0 refl))
]
of_page u p _ h = cc

page_of_it : (u p : ℕ) (x : Frame) → page_of x ≡ Some (u, p) → is_of u p x ≡ true
page_of_it u p (frame.Bound v q used modified) h = by (page_is v q u p h)
  where
    by : (v ≡ u) × (q ≡ p) → (eqb v u && eqb q p) ≡ true
    by both = elim (eqb_tells v u) [
      | inl e ↦ elim (eqb_tells q p) [ inl i ↦ rw (e.0, i.0) refl | inr n ↦ absurd (n.1 both.1) ]
      | inr n ↦ absurd (n.1 both.0)
    ]
page_of_it u p _ h = cc

bare_page : (x : Frame) → page_of (bare x) ≡ bound_page x
bare_page frame.Free = refl
bare_page _ = refl

module _ (s : State) where
  pub frame_outlined : (f : ℕ) → frame_in (outline_of s).frames f ≡ bare (store_frame s.store.pages f)
  unfolding outline_of
  frame_outlined f = map_at bare s.store.pages.core.frames f frame.Free

  pub bound_outlined : (f : ℕ) → page_of (frame_in (outline_of s).frames f) ≡ (seen s).bound f
  bound_outlined f = cc (
    frame_outlined f,
    bare_page (store_frame s.store.pages f),
    map_at bound_page s.store.pages.core.frames f frame.Free,
  )

  -- a page that is in a frame, and a frame that has it
  here_bound : (u p : ℕ) → is_here (outline_of s).frames u p ≡ true → (f : ℕ) × ((seen s).bound f ≡ Some (u, p))
  unfolding is_here
  here_bound u p h = (
    position_or_len (is_of u p) (outline_of s).frames,
    sym (bound_outlined _) ∙ of_page u p _ (found (is_of u p) (outline_of s).frames frame.Free
        (some_within (is_of u p) (outline_of s).frames h)),
  )

  bound_here : (f u p : ℕ) → (seen s).bound f ≡ Some (u, p) → is_here (outline_of s).frames u p ≡ true
  unfolding is_here
  bound_here f u p h = any_at (is_of u p) (outline_of s).frames f frame.Free
      (page_of_it u p _ (bound_outlined f ∙ h)) refl

  module _ (k : Keeps s) (u p : ℕ) where
    pub named_here : (f : ℕ) → names (word_of s.store.ast u p) ≡ Some f → is_here (outline_of s).frames u p ≡ true
    named_here f h = bound_here f u p (k.book.tied.back f u p h)

    pub not_here : names (word_of s.store.ast u p) ≡ None → is_here (outline_of s).frames u p ≡ false
    not_here h = false_from_ne_true (is_here (outline_of s).frames u p) (λ e. (let at = here_bound u p e in cc
        (k.book.tied.named at.0 u p at.1)))

    -- a page of an active segment is stored where its word says that it has a record
    pub stored_outlined : is_active s.store.ast u ≡ true
        → (outline_of s).stored u p ≡ has_record (word_of s.store.ast u p)
    unfolding outline_of
    stored_outlined active = sym (k.faithful.pages.stored u p) ∙ stored_is s k u active p

-- an element of a list after one of them changed is as it was, or it is that one
pub set_either : {A : Type 0} (xs : List A) (i : ℕ) (y : A) (j : ℕ) (d : A)
    → (get_or (set xs i y) j d ≡ get_or xs j d) ⊎ ((j ≡ i) × (get_or (set xs i y) j d ≡ y))
set_either (x ∷ xs) zero y zero d = inr (refl, refl)
set_either (x ∷ xs) (suc i) y (suc j) d = elim (set_either xs i y j d) [ inl e ↦ inl e | inr e ↦ inr (cc, e.1) ]
set_either _ _ y _ d = inl refl

-- ---- file maps

module _ (vtocs : List (List (Option Entry))) (home : Home) (p : ℕ) where
  abbrev now : List (List (Option Entry))
  now = set vtocs home.volume (set (vtoc_in vtocs home.volume) home.entry
      (with_record (entry_at (vtoc_in vtocs home.volume) home.entry) p None))

  entry_other : (x : Option Entry) (q : ℕ) → q ≢ p
      → get_or (records_in (with_record x p None)) q None ≡ get_or (records_in x) q None
  entry_other None q n = refl
  entry_other (Some e) q n = elim (set_either e.records p None q None) [ inl same ↦ same | inr is ↦ absurd (n is.0) ]

  table_other : (e q : ℕ) → (e ≡ home.entry → q ≢ p) → record_at (set (vtoc_in vtocs home.volume) home.entry
      (with_record (entry_at (vtoc_in vtocs home.volume) home.entry) p None)) e q
      ≡ record_at (vtoc_in vtocs home.volume) e q
  table_other e q n = elim (set_either (vtoc_in vtocs home.volume) home.entry
      (with_record (entry_at (vtoc_in vtocs home.volume) home.entry) p None) e None) [
        | inl same ↦ ap (λ (x : Option Entry). get_or (records_in x) q None) same
        | inr is ↦ ap (λ (x : Option Entry). get_or (records_in x) q None) is.1
            ∙ (cc (entry_other (entry_at (vtoc_in vtocs home.volume) home.entry) q (n is.0)))
      ]

  filed_other : (at : Home) (q : ℕ) → (at.volume ≡ home.volume → at.entry ≡ home.entry → q ≢ p)
      → is_filed_at now at q ≡ is_filed_at vtocs at q
  unfolding is_filed_at
  filed_other at q n = elim (set_either vtocs home.volume (set (vtoc_in vtocs home.volume) home.entry
      (with_record (entry_at (vtoc_in vtocs home.volume) home.entry) p None)) at.volume []) [
        | inl same ↦ ap (λ (t : List (Option Entry)). is_some (record_at t at.entry q)) same
        | inr is ↦ ap (λ (t : List (Option Entry)). is_some (record_at t at.entry q)) is.1
            ∙ (cc (table_other at.entry q (n is.0)))
      ]

-- ---- records

-- a record that is given back makes no volume full
count_less : (flags : List Bool) (r : ℕ) → count_by (λ flag. flag) (set flags r false) ≤ count_by (λ flag. flag) flags
count_less [] r = le_refl _
count_less (x ∷ xs) zero = let one = sum_by-cons (λ flag. cond {A = ℕ} flag 1 0) false xs in
    omega (arith, (sum_by-cons (λ flag. cond {A = ℕ} flag 1 0) x xs))
count_less (x ∷ xs) (suc r) = let one = sum_by-cons (λ flag. cond {A = ℕ} flag 1 0) x (set xs r false) in
    omega (arith, count_less xs r, (sum_by-cons (λ flag. cond {A = ℕ} flag 1 0) x xs))

all_in_use : (flags : List Bool) (r : ℕ)
    → eqb (count_by (λ flag. flag) (set flags r false)) (length (set flags r false)) ≡ true
    → eqb (count_by (λ flag. flag) flags) (length flags) ≡ true
all_in_use flags r h = elim (eqb_tells (count_by (λ flag. flag) flags) (length flags)) [
  | inl e ↦ e.0
  | inr n ↦ absurd (n.1 (omega (arith, (count_less flags r), (count_by-le-length (λ flag. flag) flags), same, now)))
]
  where
    same : length (set flags r false) ≡ length flags
    same = length-set flags r false

    now : count_by (λ flag. flag) (set flags r false) ≡ length (set flags r false)
    now = elim (eqb_tells (count_by (λ flag. flag) (set flags r false)) (length (set flags r false))) [
      | inl e ↦ e.1
      | inr n ↦ absurd (not_both h n.0)
    ]

given_full : (records : List (List Bool)) (v r w : ℕ)
    → is_full (set records v (set (flags_in records v) r false)) w ≡ true → is_full records w ≡ true
given_full records v r w h = elim (set_either records v (set (flags_in records v) r false) w []) [
  | inl same ↦ ap (λ (fs : List Bool). eqb (count_by (λ flag. flag) fs) (length fs)) (sym same) ∙ h
  | inr is ↦ ap (λ (i : ℕ). is_full records i) is.0 ∙ all_in_use (flags_in records v) r (cc)
]

-- ---- a page

module _ {s : State} (k : Keeps s) (f u p : ℕ) (here : page_in s.store f ≡ (u, p))
    (there : is_there s.store.accounts.nodes u ≡ true) where
  others : (how : Left) (v q : ℕ) → (v ≡ u → q ≢ p)
      → is_filed (with_left s.store f how (u, p)).accounts (with_left s.store f how (u, p)).pages.vtocs v q
      ≡ is_filed s.store.accounts s.store.pages.vtocs v q
  unfolding is_filed
  others left.Kept v q n = refl
  others left.Released v q n = by (is_there s.store.accounts.nodes v) refl
    where
      by : (b : Bool) → is_there s.store.accounts.nodes v ≡ b
          → (b && is_filed_at (now s.store.pages.vtocs (home_in s.store u) p) (home_of s.store.accounts v) q)
          ≡ (b && is_filed_at s.store.pages.vtocs (home_of s.store.accounts v) q)
      by false e = refl
      by true e = filed_other s.store.pages.vtocs (home_in s.store u) p (home_of s.store.accounts v) q
          (λ a b. n (same a b))
        where
          same : (home_of s.store.accounts v).volume ≡ (home_in s.store u).volume
              → (home_of s.store.accounts v).entry ≡ (home_in s.store u).entry → v ≡ u
          same a b = let its = k.store.counted.housed.homes u there in
              let one : Some v ≡ Some u = sym (k.store.counted.housed.homes v e)
              ∙ (λ i. uid_at s.store.pages.vtocs (record { volume = a i; entry = b i })) ∙ its in cc

  full_less : (how : Left) (page : ℕ × ℕ) (v : ℕ)
      → lacks_record (with_left s.store f how page).accounts.nodes (with_left s.store f how page).pages.records v ≡ true
      → lacks_record s.store.accounts.nodes s.store.pages.records v ≡ true
  full_less left.Kept page v h = h
  full_less left.Released page v h = given_full s.store.pages.records (home_in s.store page.0).volume
      (record_of s.store.pages (home_in s.store page.0) page.1) (volume_in s.store.accounts.nodes v) h

  pub releases : page_of (frame_in (outline_of s).frames f) ≡ Some (u, p)
      → MayRelease (outline_of s) f (stored_then s f) (full_then s f)
  unfolding outline_of
  releases is = record {
    room = full_less (left_of (words_in s.store.pages f)) (page_in s.store f);
    others = λ v q n. cc (others (left_of (words_in s.store.pages f)) v q
        (λ a b. n (is ∙ (λ i. Some (sym a i, sym b i)))));
  }

bound_is_there : {s : State} → Keeps s → (f u p : ℕ) → (seen s).bound f ≡ Some (u, p)
    → is_there s.store.accounts.nodes u ≡ true
bound_is_there k f u p h = let active = k.store.kept.paged.bound f u p h in
    k.store.counted.active.there active.0 u active.1

-- each page that the owner has taken may leave its frame
pub leaves_may : {s : State} → Keeps s → (o : Owner) (f : ℕ) (fs : List ℕ) → s.owner ≡ Some o → o.frames ≡ f ∷ fs
    → MayRelease (outline_of s) f (stored_then s f) (full_then s f)
leaves_may {s} k o f fs mine frames = by ((seen s).bound f) refl (cc (k.book.going_owned.frames f, has_head f fs))
  where
    read : (y : Option (ℕ × ℕ)) → is_going_frame (read_use y) ≡ false
    read None = refl
    read (Some page) = refl

    by : (x : Option (ℕ × ℕ)) → (seen s).bound f ≡ x
        → is_going_frame (frame_use (seen s).words x ((seen s).reads f)) ≡ true
        → MayRelease (outline_of s) f (stored_then s f) (full_then s f)
    by None e h = cc (read ((seen s).reads f))
    by (Some page) e h = releases k f page.0 page.1 (cc (map_list bound_page s.store.pages.core.frames f frame.Free))
        (bound_is_there k f page.0 page.1 e) (bound_outlined s f ∙ e)
