pub use Rattle.core_map.proofs.Prelude.{All, All-from_get_or, All-get_or, Bool, Bound, Core, Frame, Free, IfNone, IfSome, IsLeastFree, IsLeastFreeFrame, IsTied, List, None, Option, Some, [], after_reference, ap, arith, below_or_past, cond, false, frame_in, get_or, get_or-map, get_or_past, get_or_read, in_use, inl, inr, is_bound, is_free, is_taken, least_free, least_free_frame, length, length-map, length-replicate, length-set, list_any, map, map-set, map_kept, not, prefix_len, refl, replicate, set, set_past, started_page, suc, sym, true, with_modified, zero, ℕ, ◌+◌, ◌<◌, ◌^◌, ◌∙◌, ◌∷◌, ◌≡◌, ◌≤◌}

-- What a change of marks leaves as it is: whether the frame is taken, and which page is being read in.
pub record IsSeenAs (x y : Frame) : Type 0 where
  pub taken : is_taken x ≡ is_taken y
  pub started : started_page x ≡ started_page y

pub seen_referred : (x : Frame) (wrote : Bool) → IsSeenAs (after_reference x wrote) x
seen_referred Free wrote = assumption
seen_referred _ wrote = assumption

pub seen_modified : (x : Frame) (now : Bool) → IsSeenAs (with_modified x now) x
seen_modified Free now = assumption
seen_modified _ now = assumption

pub started_of_bound : (x : Frame) → is_bound x ≡ true → None ≡ started_page x
started_of_bound (Bound uid page used modified) h = refl
started_of_bound _ h = cc

free_from_taken : (x : Frame) → is_taken x ≡ false → x ≡ Free
free_from_taken Free h = refl
free_from_taken _ h = cc

not_free_from_taken : (x : Frame) → is_taken x ≡ true → is_free x ≡ false
not_free_from_taken Free h = cc
not_free_from_taken _ h = refl

-- what a test of the frames says of one of them
pub map_at : {X : Type 0} (t : Frame → X) (frames : List Frame) (f : ℕ) → get_or (map t frames) f (t Free)
    ≡ t (frame_in frames f)
map_at t frames f = elim (below_or_past f (length frames)) [
  | inl lt ↦ get_or-map t frames f Free (t Free) lt
  | inr past ↦ (let long : length (map t frames) ≤ f = omega (arith, length-map frames t) in
      get_or_past (map t frames) f (t Free) long ∙ sym (ap t (get_or_past frames f Free past)))
]

-- the bits of taken frames
pub bit_is : {taken : List Bool} {frames : List Frame} {hand : ℕ} (f : ℕ) → IsTied taken frames hand → in_use taken f
    ≡ is_taken (frame_in frames f)
bit_is {frames} f h = cc (map_at is_taken frames f)

-- a frame is written, and its bit with it
pub tied_with : {taken ts : List Bool} {frames : List Frame} {hand : ℕ} (f : ℕ) (x : Frame) → IsTied taken frames hand
    → ts ≡ set taken f (is_taken x) → IsTied ts (set frames f x) hand
tied_with {frames} f x h is = record {
  bits = cc (map-set is_taken frames f x);
  short = rw (length-set frames f x) h.short;
  hand_within = rw (length-set frames f x) h.hand_within;
}

-- the marks of a frame are written
pub kept_by : {X : Type 0} (t : Frame → X) (frames : List Frame) (f : ℕ) {x : Frame} (y : Frame) → x ≡ get_or frames f x
    → t y ≡ t x → map t (set frames f y) ≡ map t frames
kept_by t frames f {x} y read same = elim (below_or_past f (length frames)) [
  | inl lt ↦ map_kept t frames f Free y (same ∙ ap t (get_or_read frames f x lt read Free))
  | inr past ↦ ap (map t) (set_past frames f y past)
]

pub tied_same : {taken : List Bool} {frames : List Frame} {hand : ℕ} (f : ℕ) {x : Frame} (y : Frame)
    → IsTied taken frames hand → x ≡ get_or frames f x → is_taken y ≡ is_taken x → IsTied taken (set frames f y) hand
tied_same {frames} f {x} y h read same = record {
  bits = cc (kept_by is_taken frames f y read same);
  short = rw (length-set frames f y) h.short;
  hand_within = rw (length-set frames f y) h.hand_within;
}

-- some frame is bound, so not every frame isn't
pub none_bound : (frames : List Frame) → ((i : ℕ) → i < length frames → is_bound (frame_in frames i) ≡ false)
    → list_any is_bound frames ≡ false
none_bound [] h = refl
none_bound (x ∷ frames) h = let first : is_bound x ≡ false =
    h 0 (omega arith) in rw first (none_bound frames (λ i lt. h (suc i) (omega arith)))

-- the least free frame by the bits
first_step : (x : Frame) {a b : ℕ} → a ≡ b → cond (not (not (is_taken x))) (1 + a) 0 ≡ cond (not (is_free x)) (1 + b) 0
first_step Free e = refl
first_step _ e = cc

first_same : (frames : List Frame) → prefix_len (λ flag. not (not flag)) (map is_taken frames)
    ≡ prefix_len (λ x. not (is_free x)) frames
first_same [] = refl
first_same (x ∷ frames) = first_step x (first_same frames)

pub least_same : {taken : List Bool} {frames : List Frame} {hand : ℕ} {core : Core} → IsTied taken frames hand
    → record { frames = frames; hand = hand } ≡ core → least_free taken ≡ least_free_frame core
least_same {frames} h view =
    let first = ap (prefix_len (λ flag. not (not flag))) h.bits ∙ first_same frames in
    let long = ap length h.bits ∙ length-map frames is_taken in
    rw (← view, first, long) refl

pub least_frame : (taken : List Bool) (frames : List Frame) (hand f : ℕ) (core : Core) → IsTied taken frames hand
    → record { frames = frames; hand = hand } ≡ core → IsLeastFree taken f → IsLeastFreeFrame core f
least_frame taken frames hand f core h view least = rw (← view) (record {
  within = omega (arith, ap length h.bits, length-map frames is_taken);
  free = free_from_taken (frame_in frames f) (cc (bit_is f h));
  before = λ k lt. not_free_from_taken (frame_in frames k) (sym (bit_is k h) ∙ least.before k lt);
})

pub none_free : {taken : List Bool} {frames : List Frame} {hand : ℕ} {core : Core} → IsTied taken frames hand → record
    { frames = frames; hand = hand } ≡ core → All (λ flag. flag ≡ true) taken → All (λ x. is_free x ≡ false) core.frames
none_free {taken} {frames} {hand} h view all = rw (← view) (All-from_get_or (λ x. is_free x ≡ false)
    frames Free (λ k lt. not_free_from_taken (frame_in frames k) (sym (bit_is k h) ∙ All-get_or (λ flag. flag ≡ true)
    taken k false (omega (arith, ap length h.bits, length-map frames is_taken)) all)))

-- all frames are free at first
free_bits : (n : ℕ) → replicate n false ≡ map is_taken (replicate n Free)
free_bits zero = refl
free_bits (suc n) = cc (free_bits n)

pub tied_new : (taken : List Bool) (frames : List Frame) (n : ℕ) → n < 2 ^ 32 → taken ≡ replicate n false → frames
    ≡ replicate n Free → IsTied taken frames 0
tied_new taken frames n fits bits is = record {
  bits = cc (free_bits n);
  short = omega (arith, ap length is, length-replicate {A = Frame} n Free);
  hand_within = omega arith;
}

-- the same of what the bits answer
pub least_if : (answer : Option ℕ) (taken : List Bool) (frames : List Frame) (hand : ℕ) (core : Core)
    → IsTied taken frames hand → record { frames = frames; hand = hand } ≡ core
    → IfSome answer (λ f. IsLeastFree taken f) → IfSome answer (λ f. IsLeastFreeFrame core f)
least_if None taken frames hand core h view least = tt
least_if (Some f) taken frames hand core h view least = least_frame taken frames hand f core h view least

pub none_if : (answer : Option ℕ) (taken : List Bool) (frames : List Frame) (hand : ℕ) (core : Core)
    → IsTied taken frames hand → record { frames = frames; hand = hand } ≡ core
    → IfNone answer (All (λ flag. flag ≡ true) taken) → IfNone answer (All (λ x. is_free x ≡ false) core.frames)
none_if None taken frames hand core h view all = none_free h view all
none_if (Some f) taken frames hand core h view all = tt
