-- What a turn of the clock comes to, by how it ends.
pub use Rattle.core_map.proofs.Prelude.{Bool, Core, Frame, Free, GoesAround, HasNone, IsFirst, IsFirstBound, IsTurned, IsUnmarked, List, None, Option, PassesAll, Some, [], after_choice, ap, append-nil, arith, below_or_past, clock_choice, cond, ext_get_or, find, frame_in, get_or-map, inl, inr, is_bound, is_idle, is_taken, length, length-map, list_any, map, or_else, passed_over, range_with_len, refl, round_frames, started_page, sym, true, unmarked, ℕ, ◌++◌, ◌+◌, ◌-◌, ◌<◌, ◌==◌, ◌∙◌, ◌∷◌, ◌≡◌, ◌≤◌}
use Rattle.core_map.proofs.Frames.{IsSeenAs, none_bound}
use Rattle.core_map.proofs.Passing.{found_first, found_none, passed_all, passed_to}

-- whether a frame is taken, and which page is read into it, is so after its mark is turned off
pub seen_unmarked : (x : Frame) → IsSeenAs (unmarked x) x
seen_unmarked Free = assumption
seen_unmarked _ = assumption

abbrev core_of : List Frame → ℕ → Core
core_of frames hand = record { frames = frames; hand = hand }

-- what marks don't change is as before
same_at : {X : Type 0} (t : Frame → X) → ((x : Frame) → t (unmarked x) ≡ t x) → {old new : List Frame} {low high : ℕ}
    (k : ℕ) → IsUnmarked old new low high → t (frame_in new k) ≡ t (frame_in old k)
same_at t same {old} {low} {high} k marks = elim (below_or_past k low) [
  | inl under ↦ ap t (marks.before k under)
  | inr over ↦ elim (below_or_past k high) [
    | inl inside ↦ ap t (marks.inside k over inside) ∙ same (frame_in old k)
    | inr past ↦ ap t (marks.after k past)
  ]
]

same_all : {X : Type 0} (t : Frame → X) → ((x : Frame) → t (unmarked x) ≡ t x) → {old new : List Frame} {low high : ℕ}
    → IsUnmarked old new low high → map t new ≡ map t old
same_all t same {old} {new} {low} {high} marks =
    ext_get_or (t Free) (map t new) (map t old) (cc (length-map new t, length-map old t))
    (λ k lt. let inside : k < length new = omega (arith, length-map new t) in
    get_or-map t new k Free (t Free) inside ∙ same_at t same k marks
    ∙ sym (get_or-map t old k Free (t Free) (omega arith)))

pub turned_same : {X : Type 0} (t : Frame → X) → ((x : Frame) → t (unmarked x) ≡ t x)
    → {old new : List Frame} {hand f : ℕ} → IsTurned old new hand f → map t new ≡ map t old
turned_same t same {old} {new} {hand} {f} (inl h) = same_all t same h.marks
turned_same t same {old} {new} {hand} {f} (inr (inl h)) = same_all t same h.behind.marks ∙ same_all t same h.ahead.marks
turned_same t same {old} {new} {hand} (inr (inr h)) = same_all t same h.behind.marks ∙ same_all t same h.ahead.marks

pub turned_count : {old new : List Frame} {hand f : ℕ} → IsTurned old new hand f → length new ≡ length old
turned_count (inl h) = h.marks.count
turned_count (inr (inl h)) = cc
turned_count (inr (inr h)) = cc

-- frames that a test sees alike
first_alike : {p : Frame → Bool} {xs ys : List Frame} {low high f : ℕ}
    → ((k : ℕ) → k < high → p (frame_in ys k) ≡ p (frame_in xs k)) → IsFirst p ys low high f → IsFirst p xs low high f
first_alike {f} alike h = record {
  above = h.above;
  below = h.below;
  here = cc (alike f h.below);
  before = λ i over under. sym (alike i (omega arith)) ∙ h.before i over under;
}

none_alike : {p : Frame → Bool} {xs ys : List Frame} {low high : ℕ}
    → ((k : ℕ) → k < high → p (frame_in ys k) ≡ p (frame_in xs k)) → HasNone p ys low high → HasNone p xs low high
none_alike alike h = record { none = λ i over under. sym (alike i under) ∙ h.none i over under }

bound_unmarked : (x : Frame) → is_bound (unmarked x) ≡ is_bound x
bound_unmarked Free = refl
bound_unmarked _ = refl

-- what stands before the hand is as it was while the hand goes on
idle_before : {old middle : List Frame} {hand : ℕ} → IsUnmarked old middle hand (length old) → (k : ℕ) → k < hand
    → is_idle (frame_in middle k) ≡ is_idle (frame_in old k)
idle_before marks k under = ap is_idle (marks.before k under)

bound_alike : {old new : List Frame} {hand f : ℕ} (h : GoesAround old new hand f) (k : ℕ) → is_bound (frame_in new k)
    ≡ is_bound (frame_in old k)
bound_alike {old} {new} {hand} h k = same_at is_bound bound_unmarked k h.behind.marks
    ∙ same_at is_bound bound_unmarked k h.ahead.marks

first_bound_alike : {xs ys : List Frame} {hand f : ℕ} → length ys ≡ length xs
    → ((k : ℕ) → is_bound (frame_in ys k) ≡ is_bound (frame_in xs k)) → IsFirstBound ys hand f → IsFirstBound xs hand f
first_bound_alike {xs} {ys} {hand} {f} long alike (inl h) = inl (first_alike (λ k _. alike k) (rw long at h))
first_bound_alike {xs} {ys} {hand} {f} long alike (inr h) = inr (
  none_alike (λ k _. alike k) (rw long at h.0),
  first_alike (λ k _. alike k) h.1,
)

-- the choice and the marks as functions
last_range : (hand : ℕ) → range_with_len 0 hand ≡ range_with_len 0 (hand - 0) ++ []
last_range hand =
    let same : hand - 0 ≡ hand = omega arith in
    rw same (sym (append-nil (range_with_len 0 hand)))

found_last : {p : Frame → Bool} {frames : List Frame} {hand f : ℕ} → IsFirst p frames 0 hand f
    → find (λ i. p (frame_in frames i)) (range_with_len 0 hand) ≡ Some f
found_last {p} {frames} {hand} {f} h = cc (last_range hand, found_first [] h)

found_no_last : {p : Frame → Bool} {frames : List Frame} {hand : ℕ} → HasNone p frames 0 hand
    → find (λ i. p (frame_in frames i)) (range_with_len 0 hand) ≡ None
found_no_last {p} {frames} {hand} h = cc (last_range hand, found_none [] (omega arith) h)

found_round : (frames : List Frame) (hand f : ℕ) → hand ≤ length frames → IsFirstBound frames hand f
    → find (λ i. is_bound (frame_in frames i)) (round_frames (core_of frames hand)) ≡ Some f
found_round frames hand f fits (inl h) = found_first (range_with_len 0 hand) h
found_round frames hand f fits (inr h) = found_none (range_with_len 0 hand) fits h.0 ∙ found_last h.1

either : {a : Option ℕ} (b : Option ℕ) {f : ℕ} → a ≡ Some f → or_else a b ≡ Some f
either b first = cc

second : {a b : Option ℕ} {f : ℕ} → a ≡ None → b ≡ Some f → or_else a b ≡ Some f
second {b} none found = cc

pub turned_choice : (old new : List Frame) (hand f : ℕ) → hand ≤ length old → IsTurned old new hand f
    → clock_choice (core_of old hand) ≡ Some f
turned_choice old new hand f fits (inl h) = either _ (found_first (range_with_len 0 hand) h.first)
turned_choice old new hand f fits (inr (inl h)) = either _ (found_none (range_with_len 0 hand) fits h.ahead.busy
    ∙ found_last (first_alike (idle_before h.ahead.marks) h.behind.first))
turned_choice old new hand f fits (inr (inr h)) = second (found_none (range_with_len 0 hand) fits h.ahead.busy
    ∙ found_no_last (none_alike (idle_before h.ahead.marks) h.behind.busy))
    (found_round old hand f fits (first_bound_alike (cc) (bound_alike h) h.first))

nothing_more : {frames : List Frame} → passed_over frames [] ≡ frames
unfolding passed_over
nothing_more = refl

pub turned_frames : (old new : List Frame) (hand f : ℕ) → hand ≤ length old → IsTurned old new hand f
    → passed_over old (round_frames (core_of old hand)) ≡ new
turned_frames old new hand f fits (inl h) = passed_to old new hand (length old) f (range_with_len 0 hand) (omega arith)
    h
turned_frames old new hand f fits (inr (inl h)) =
    passed_all old h.middle hand (length old) (range_with_len 0 hand) fits (omega arith) h.ahead
    ∙ ap (passed_over h.middle) (last_range hand) ∙ passed_to h.middle new 0 hand f [] (omega arith) h.behind
turned_frames old new hand f fits (inr (inr h)) =
    passed_all old h.middle hand (length old) (range_with_len 0 hand) fits (omega arith) h.ahead ∙ ap (passed_over
    h.middle) (last_range hand) ∙ passed_all h.middle new 0 hand [] (omega arith) (omega arith) h.behind ∙ nothing_more

-- some frame is bound, and is so after a whole turn
any_of_map : (frames : List Frame) → list_any is_bound frames ≡ list_any (λ flag. flag) (map is_bound frames)
any_of_map [] = refl
any_of_map (x ∷ frames) = cc (any_of_map frames)

pub bound_after : {old middle new : List Frame} {hand end : ℕ} → list_any is_bound old ≡ true
    → PassesAll old middle hand end → PassesAll middle new 0 hand → list_any is_bound new ≡ true
bound_after {old} {middle} {new} {hand} {end} some ahead behind = cc (
  any_of_map new,
  same_all is_bound bound_unmarked behind.marks,
  same_all is_bound bound_unmarked ahead.marks,
  any_of_map old,
)

pub some_is_bound : {frames : List Frame} {hand end : ℕ} → end ≡ length frames → list_any is_bound frames ≡ true
    → HasNone is_bound frames hand end → HasNone is_bound frames 0 hand → ⊥
some_is_bound {frames} {hand} long some ahead behind =
    let none = none_bound frames (λ i lt. elim (below_or_past i hand) [
      | inl under ↦ behind.none i (omega arith) under
      | inr over ↦ ahead.none i over (omega arith)
    ]) in
    cc

-- the core as a whole
pub turned_core : (old new : List Frame) (hand f n next : ℕ) → hand ≤ length old → IsTurned old new hand f → n
    ≡ length new → next ≡ cond (f + 1 == n) 0 (f + 1) → core_of new next ≡ after_choice (core_of old hand) f
turned_core old new hand f n next fits h long is =
    ap (λ (frames : List Frame). core_of frames next) (sym (turned_frames old new hand f fits h))
    ∙ ap (core_of (passed_over old (round_frames (core_of old hand)))) (cc (long ∙ turned_count h))
