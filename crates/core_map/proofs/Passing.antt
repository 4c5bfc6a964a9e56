-- The clock as a function: what it finds and leaves, by what the code does with ranges of frames.
use Rattle.core_map.proofs.Prelude.{Bool, Frame, Free, HasNone, IsFirst, IsUnmarked, List, PassesAll, PassesTo, Some, ap, append_assoc, arith, below_or_past, cases_eq, ext_get_or, false, find, frame_in, get_or-set_other, get_or-set_same, inl, inr, is_idle, length, length-set, passed_over, range_with_len, refl, set, suc, sym, true, unmarked, zero, ℕ, ◌++◌, ◌+◌, ◌-◌, ◌<◌, ◌∙◌, ◌∷◌, ◌≡◌, ◌≢◌, ◌≤◌}

-- a range is split at a number in it
split_range : (a b low n at : ℕ) → n ≡ a + suc b → at ≡ low + a → range_with_len low n ≡ range_with_len low a ++ at
    ∷ range_with_len (at + 1) b
split_range zero b low n at long is =
    let one : n ≡ suc b = omega arith in
    let here : at ≡ low = omega arith in
    rw (one, here) refl
split_range (suc a) b low n at long is =
    let more : n ≡ suc (a + suc b) = omega arith in
    rw more (ap (λ (fs : List ℕ). low ∷ fs) (split_range a b (low + 1) (a + suc b) at refl (omega arith)))

pub split_at : (low high f : ℕ) (rest : List ℕ) → low ≤ f → f < high → range_with_len low (high - low) ++ rest
    ≡ range_with_len low (f - low) ++ f ∷ (range_with_len (f + 1) (high - f - 1) ++ rest)
split_at low high f rest above below = cc (
  split_range (f - low) (high - f - 1) low (high - low) f (omega arith) (omega arith),
  append_assoc (range_with_len low (f - low)) (f ∷ range_with_len (f + 1) (high - f - 1)) rest,
)

-- a search goes past a range of which none passes
find_past : (p : ℕ → Bool) (n low : ℕ) {high : ℕ} (rest : List ℕ) → high ≡ low + n
    → ((i : ℕ) → low ≤ i → i < high → p i ≡ false) → find p (range_with_len low n ++ rest) ≡ find p rest
find_past p zero low rest long none = refl
find_past p (suc n) low {high} rest long none =
    let here : p low ≡ false = none low (omega arith) (omega arith) in
    rw here (find_past p n (low + 1) rest (omega arith) (λ i over under. none i (omega arith) under))

pub found_none : {p : Frame → Bool} {frames : List Frame} {low high : ℕ} (rest : List ℕ) → low ≤ high
    → HasNone p frames low high → find (λ i. p (frame_in frames i)) (range_with_len low (high - low) ++ rest)
    ≡ find (λ i. p (frame_in frames i)) rest
found_none {p} {frames} {low} {high} rest order h = find_past (λ i. p (frame_in frames i)) (high - low) low rest
    (omega arith) h.none

find_here : (p : ℕ → Bool) {f : ℕ} (rest : List ℕ) → p f ≡ true → find p (f ∷ rest) ≡ Some f
find_here p rest h = rw h refl

pub found_first : {p : Frame → Bool} {frames : List Frame} {low high f : ℕ} (rest : List ℕ)
    → IsFirst p frames low high f → find (λ i. p (frame_in frames i)) (range_with_len low (high - low) ++ rest) ≡ Some f
found_first {p} {frames} {low} {high} {f} rest h = cc (
  split_at low high f rest h.above h.below,
  find_past (λ i. p (frame_in frames i)) (f - low) low
      (f ∷ (range_with_len (f + 1) (high - f - 1) ++ rest)) (omega (arith, h.above)) h.before,
  find_here (λ i. p (frame_in frames i)) (range_with_len (f + 1) (high - f - 1) ++ rest) h.here,
)

-- frames of which none is unmarked are as before
none_unmarked : {old new : List Frame} {low high : ℕ} → high ≤ low → IsUnmarked old new low high → old ≡ new
none_unmarked {old} {new} {low} empty marks = ext_get_or Free old new (sym marks.count)
    (λ k lt. elim (below_or_past k low) [
      | inl under ↦ sym (marks.before k under)
      | inr over ↦ sym (marks.after k (omega arith))
    ])

-- the first frame of a range is unmarked
unmarked_next : {old new : List Frame} {low high : ℕ} → low < high → low < length old → IsUnmarked old new low high
    → IsUnmarked (set old low (unmarked (frame_in old low))) new (low + 1) high
unmarked_next {old} {low} some inside marks =
    let other : (k : ℕ) → k ≢ low → frame_in (set old low (unmarked (frame_in old low))) k ≡ frame_in old k =
    λ k ne. get_or-set_other old low k (unmarked (frame_in old low)) Free ne in
    record {
      count = cc (length-set old low (unmarked (frame_in old low)));
      inside = λ k over under. cc (marks.inside k (omega (arith, over)) under, other k (omega (arith, over)));
      before = λ k under. elim (cases_eq k low) [
        | inl e ↦ rw e (marks.inside low (omega arith) some
            ∙ sym (get_or-set_same old low (unmarked (frame_in old low)) Free inside))
        | inr ne ↦ marks.before k (omega arith) ∙ sym (other k ne)
      ];
      after = λ k over. marks.after k over ∙ sym (other k (omega arith));
    }

-- what the hand leaves of a range of which no frame is idle
passed_range : (n low high : ℕ) (old new : List Frame) (rest : List ℕ) → high ≡ low + n → high ≤ length old
    → IsUnmarked old new low high → ((i : ℕ) → low ≤ i → i < high → is_idle (frame_in old i) ≡ false)
    → passed_over old (range_with_len low n ++ rest) ≡ passed_over new rest
unfolding passed_over
passed_range zero low high old new rest long fits marks busy = cc (none_unmarked (omega (arith, long)) marks)
passed_range (suc n) low high old new rest long fits marks busy =
    let here : is_idle (frame_in old low) ≡ false = busy low (omega arith) (omega arith) in
    let inside : low < length old = omega arith in
    rw here (passed_range n (low + 1) high (set old low (unmarked (frame_in old low))) new rest (omega arith)
    (rw (length-set old low (unmarked (frame_in old low))) fits) (unmarked_next (omega arith) inside marks)
    (λ i over under. ap is_idle (get_or-set_other old low i (unmarked (frame_in old low)) Free (omega arith))
    ∙ busy i (omega arith) under))

pub passed_all : (old new : List Frame) (low high : ℕ) (rest : List ℕ) → low ≤ high → high ≤ length old
    → PassesAll old new low high → passed_over old (range_with_len low (high - low) ++ rest) ≡ passed_over new rest
passed_all old new low high rest order fits h = passed_range (high - low) low high old new rest (omega arith) fits
    h.marks h.busy.none

stops_here : {frames : List Frame} (f : ℕ) (rest : List ℕ) → is_idle (frame_in frames f) ≡ true
    → passed_over frames (f ∷ rest) ≡ frames
unfolding passed_over
stops_here f rest h = rw h refl

pub passed_to : (old new : List Frame) (low high f : ℕ) (rest : List ℕ) → high ≤ length old
    → PassesTo old new low high f → passed_over old (range_with_len low (high - low) ++ rest) ≡ new
passed_to old new low high f rest fits h = cc (
  split_at low high f rest h.first.above h.first.below,
  passed_range (f - low) low f old new (f ∷ (range_with_len (f + 1) (high - f - 1) ++ rest))
      (omega (arith, h.first.above)) (omega (arith, fits, h.first.below)) h.marks h.first.before,
  stops_here f
      (range_with_len (f + 1) (high - f - 1) ++ rest) (ap is_idle (h.marks.after f (omega arith)) ∙ h.first.here),
)
