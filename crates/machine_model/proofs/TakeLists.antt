-- What a job takes of a segment: the pages of its table that are here, each in a frame of its own, and the descriptors
-- of its trailers, each once.
use Rattle.machine_model.proofs.Kept.{◌≡◌, ◌≤◌, ℕ, zero, suc, ◌+◌, Bool, true, false, ◌||◌, cond, eqb, count_by, List, [], ◌∷◌, drop, get_or, Option, Some, ◌⊎◌, inl, inr, refl, sym, ap, ◌∙◌, arith, eqb_tells, list_any-append, sum_by-cons, What, Ptw, Sdw, uid_at, is_trailer, trailers_of, leads, leads_at, place_of, table_of, times, has, names_frame, Aim, page_at, AreDistinct, IsAimed, names, led_to, seen, Keeps, descriptor_of, frames_from, frames_in, here_in, is_active, trailers_in, shown, CutDescriptor, State, or_cases, page_is, times_few, times_one, What as what, Ptw as ptw, Sdw as sdw, false_from_ne_true, eqb_self, active_place, CanTakeAll, bound_shown, names_uid, IsIdle, idle_names, ArePairs, CanTook, has_pair}

-- ---- pages

-- a word that is here
here_word : (w : Ptw) (f : ℕ) → has (here_in w) f ≡ true → w ≡ ptw.Here f
here_word (ptw.Here g) f h = elim (eqb_tells g f) [ inl e ↦ ap (λ (x : ℕ). ptw.Here x) e.1 | inr n ↦ cc ]
here_word _ f h = cc

-- each frame of the list has a word
pub frame_word : (ws : List Ptw) (f : ℕ) → has (frames_in ws) f ≡ true → (q : ℕ) × (get_or ws q ptw.Null ≡ ptw.Here f)
frame_word [] f h = cc
frame_word (w ∷ ws) f h = by (or_cases (has (here_in w) f) (has (frames_in ws) f)
    (sym (list_any-append (λ y. eqb y f) (here_in w) (frames_in ws)) ∙ h)) (frame_word ws f)
  where
    by : (has (here_in w) f ≡ true) ⊎ (has (frames_in ws) f ≡ true)
        → (has (frames_in ws) f ≡ true → (q : ℕ) × (get_or ws q ptw.Null ≡ ptw.Here f))
        → (q : ℕ) × (get_or (w ∷ ws) q ptw.Null ≡ ptw.Here f)
    by (inl e) rest = (zero, here_word w f e)
    by (inr e) rest = let at = rest e in (suc at.0, at.1)

-- where no two words are of one frame, each frame is listed once
frames_once : (ws : List Ptw) → ((q r f : ℕ) → get_or ws q ptw.Null ≡ ptw.Here f → get_or ws r ptw.Null ≡ ptw.Here f
    → q ≡ r) → AreDistinct (frames_in ws)
frames_once [] one = tt
frames_once (ptw.Null ∷ ws) one = frames_once ws (λ q r f a b. (let s = one (suc q) (suc r) f a b in cc))
frames_once (ptw.Out x ∷ ws) one = frames_once ws (λ q r f a b. (let s = one (suc q) (suc r) f a b in cc))
frames_once (ptw.Leaving x ∷ ws) one = frames_once ws (λ q r f a b. (let s = one (suc q) (suc r) f a b in cc))
frames_once (ptw.Here g ∷ ws) one = (
  false_from_ne_true (has (frames_in ws) g) (λ e. (let at =
      frame_word ws g e in omega (arith, one zero (suc at.0) g refl at.1))),
  frames_once ws (λ q r f a b. (let s = one (suc q) (suc r) f a b in cc)),
)

-- the word of a page from a number on
pub dropped_word : (ws : List Ptw) (low q : ℕ) → get_or (drop low ws) q ptw.Null ≡ get_or ws (low + q) ptw.Null
dropped_word ws zero q = let same : q ≡ 0 + q = omega arith in cc
dropped_word [] (suc low) q = refl
dropped_word (w ∷ ws) (suc low) q = dropped_word ws low q ∙ (let same : suc (low + q) ≡ suc low + q = omega arith in cc)

-- the frames of a segment's pages from a number on may be taken
pub pages_taken : {s : State} (a : Aim) (w : What) (u low : ℕ) → Keeps s → IsIdle s.owner → names_uid w u ≡ true
    → ((gs : List ℕ) (cs : List CutDescriptor) → IsAimed a w gs cs)
    → CanTakeAll (seen s) a w (frames_from s.store.ast u low)
pages_taken {s} a w u low k idle named aimed = record {
  here = λ f h. (rw (bound_at f h) (word_at f h).1);
  once = frames_once (drop low (table_of s.store.ast u)) (λ q r f a b. once q r f a b);
  named = λ f h. frame_named w named f h;
  others = idle_names w k.book.going_owned idle.frames idle.cut;
  still = idle.waits;
  aimed = aimed;
}
  where
    word_at : (f : ℕ) → has (frames_from s.store.ast u low) f ≡ true → (p : ℕ) × ((seen s).words u p ≡ ptw.Here f)
    word_at f h = let at = frame_word (drop low (table_of s.store.ast u)) f h in
        (low + at.0, sym (dropped_word (table_of s.store.ast u) low at.0) ∙ at.1)

    bound_at : (f : ℕ) (h : has (frames_from s.store.ast u low) f ≡ true) → (seen s).bound f ≡ Some (u, (word_at f h).0)
    bound_at f h = k.book.tied.back f u (word_at f h).0 (ap names (word_at f h).1)

    once : (q r f : ℕ) → get_or (drop low (table_of s.store.ast u)) q ptw.Null ≡ ptw.Here f
        → get_or (drop low (table_of s.store.ast u)) r ptw.Null ≡ ptw.Here f → q ≡ r
    once q r f a b = let one = k.book.tied.back f u (low + q) (cc (dropped_word (table_of s.store.ast u) low q)) in
        let two = k.book.tied.back f u (low + r) (cc (dropped_word (table_of s.store.ast u) low r)) in
        omega (arith, ((page_is u (low + q) u (low + r) (cc)).1))

    frame_named : (x : What) → names_uid x u ≡ true → (f : ℕ) → has (frames_from s.store.ast u low) f ≡ true
        → names_frame (shown (seen s)) x f ≡ true
    frame_named what.All e f h = refl
    frame_named (what.Page g) e f h = cc
    frame_named (what.Seg v) e f h = cc (bound_shown (seen s) f, bound_at f h)

-- a frame that is listed has a page of the segment
pub listed_bound : {s : State} (u low : ℕ) → Keeps s → (f : ℕ) → has (frames_from s.store.ast u low) f ≡ true
    → (q : ℕ) × ((seen s).bound f ≡ Some (u, q))
listed_bound {s} u low k f h = (
  low + at.0,
  k.book.tied.back f u (low + at.0) (cc (dropped_word (table_of s.store.ast u) low at.0, at.1)),
)
  where
    at : (q : ℕ) × (get_or (drop low (table_of s.store.ast u)) q ptw.Null ≡ ptw.Here f)
    at = frame_word (drop low (table_of s.store.ast u)) f h

pub pages_bound : {s : State} (u low : ℕ) → Keeps s → (f : ℕ) → has (frames_from s.store.ast u low) f ≡ true
    → (seen s).bound f ≡ Some (page_at (seen s) f)
pages_bound {s} u low k f h = let is = (listed_bound u low k f h).1 in cc

-- ---- descriptors

abbrev tally : Bool → ℕ
tally b = cond b 1 0

pub time_one : (o : Option ℕ) (place : ℕ) → 1 ≤ times o place → o ≡ Some place
time_one = times_one

no_pair : (xs : List (ℕ × ℕ)) (k n : ℕ) → count_by (is_trailer k n) xs ≤ 0 → has_pair xs k n ≡ false
no_pair [] k n h = refl
no_pair (x ∷ xs) k n h = by (is_trailer k n x) refl (no_pair xs k n)
  where
    sum : count_by (is_trailer k n) (x ∷ xs) ≡ tally (is_trailer k n x) + count_by (is_trailer k n) xs
    sum = sum_by-cons (λ y. tally (is_trailer k n y)) x xs

    by : (b : Bool) → is_trailer k n x ≡ b → (count_by (is_trailer k n) xs ≤ 0 → has_pair xs k n ≡ false)
        → (b || has_pair xs k n) ≡ false
    by true e rest = absurd (omega (arith, (ap tally e), h, sum))
    by false e rest = rest (omega (arith, h, sum))

own_trailer : (x : ℕ × ℕ) → is_trailer x.0 x.1 x ≡ true
own_trailer x = rw (eqb_self x.0, eqb_self x.1) refl

-- descriptors that are each counted at most as often as they lead to a place lead there, and are each listed once
pairs_of : (s : State) (w : What) {u : ℕ} (place : ℕ) → uid_at s.store.ast.entries place ≡ Some u → names_uid w u ≡ true
    → (xs : List (ℕ × ℕ))
    → ((k n : ℕ) → count_by (is_trailer k n) xs ≤ times (leads_at s.store.links.descriptors k n) place)
    → ArePairs (seen s).linked w xs
pairs_of s w place active named [] few = tt
pairs_of s w {u} place active named (x ∷ xs) few = (
  (u, linked (descriptor_of s.store.links x.0 x.1) refl, named),
  no_pair xs x.0 x.1 (omega (
    arith,
    few x.0 x.1,
    times_few (leads_at s.store.links.descriptors x.0 x.1) place,
    sum x.0 x.1,
    one,
  )),
  pairs_of s w place active named xs (λ k n. (let c = sum k n in omega (arith, (few k n), c))),
)
  where
    sum : (k n : ℕ) → count_by (is_trailer k n) (x ∷ xs) ≡ tally (is_trailer k n x) + count_by (is_trailer k n) xs
    sum k n = sum_by-cons (λ y. tally (is_trailer k n y)) x xs

    one : tally (is_trailer x.0 x.1 x) ≡ 1
    one = ap tally (own_trailer x)

    leads_there : leads_at s.store.links.descriptors x.0 x.1 ≡ Some place
    leads_there = times_one (leads_at s.store.links.descriptors x.0 x.1) place
        (let c = sum x.0 x.1 in let d = one in omega (arith, (few x.0 x.1), c, d))

    linked : (y : Sdw) → descriptor_of s.store.links x.0 x.1 ≡ y → led_to s.store.ast.entries y ≡ Some u
    linked sdw.Fault e = cc (e, leads_there)
    linked (sdw.Present aste m pages) e = let same = sym (ap leads e) ∙ leads_there in let is : aste ≡ place = cc in cc

pub trailers_taken : (s : State) (w : What) (u : ℕ) → Keeps s → names_uid w u ≡ true
    → ArePairs (seen s).linked w (trailers_in s.store u)
trailers_taken s w u k named = by (is_active s.store.ast u) refl
  where
    by : (b : Bool) → is_active s.store.ast u ≡ b
        → ArePairs (seen s).linked w (cond b (trailers_of s.store.links.trailers (place_of s.store.ast.entries u)) [])
    by false e = tt
    by true e = pairs_of s w (place_of s.store.ast.entries u) (active_place s.store.ast u e).1 named
        (trailers_of s.store.links.trailers (place_of s.store.ast.entries u))
        (λ j n. (omega (arith, k.store.kept.linked.exact (place_of s.store.ast.entries u) j n)))

-- What a job takes of a segment: its pages that are here, from a number on, and its descriptors.
pub segment_takes : {s : State} (a : Aim) (w : What) (u low : ℕ) → Keeps s → IsIdle s.owner → names_uid w u ≡ true
    → ((gs : List ℕ) (cs : List CutDescriptor) → IsAimed a w gs cs)
    → CanTook s a w (frames_from s.store.ast u low) (trailers_in s.store u)
segment_takes {s} a w u low k idle named aimed = assumption (
  pages_taken a w u low k idle named aimed,
  pages_bound u low k,
  trailers_taken s w u k named,
)
