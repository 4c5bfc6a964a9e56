-- The printable front of a text, sixteen bytes at a time.
use Rattle.script.proofs.Prelude.{common_steps, ◌≡◌, ◌≢◌, ℕ, ◌+◌, ◌%◌, ◌^◌, ◌<◌, ◌≤◌, Bool, true, false, List, [], ◌∷◌, zero, suc, length, take, get_or, map, not, Fits, w8, refl, sym, ap, subst, ◌∙◌, arith, inl, inr, ◌⊎◌, agree_below, agree_below_at, cases_lt, not-false, not-true, nat_tests, length-map, leading_from_mask_l, length-chunk, map-map, mask_l-mod, run_in_chunk_fails, run_in_chunk_le, run_in_chunk_stops, take_all, trailing_mask_l, prefix_len, NoFeedBefore, IsFront, IsPrintableTo, is_printable, is_printable_byte, count_trailing_zeros, chunk, mask_l, top}

-- the bytes before a place are a printable line
pub front_whole : (bs : List ℕ) (n : ℕ) → n ≤ length bs → IsPrintableTo bs n → is_printable (take n bs) ≡ true
unfolding is_printable
front_whole bs zero le front = refl
front_whole [] (suc n) le front = absurd (omega (arith, le))
front_whole (b ∷ bs) (suc n) le front =
    rw (front 0 (omega arith)) (front_whole bs n (omega (arith, le)) (λ k lt. front (suc k) (omega (arith, lt))))

pub front_all : (bs : List ℕ) (n : ℕ) → n ≡ length bs → IsPrintableTo bs n → is_printable bs ≡ true
front_all bs n is front =
    rw (take_all n bs (omega (arith, is))) at (front_whole bs n (omega (arith, is)) front)

-- no line feed is printable
pub front_clear : (bs : List ℕ) (n : ℕ) → IsPrintableTo bs n → NoFeedBefore n bs
front_clear bs n front = λ k lt feed.
    let z : false ≡ true = ap is_printable_byte (sym feed) ∙ front k lt in cc

-- a byte more is printable
pub front_more : (bs : List ℕ) (n : ℕ) → IsPrintableTo bs n → 32 ≤ get_or bs n 0 → get_or bs n 0 ≤ 126
    → IsPrintableTo bs (n + 1)
front_more bs n front low high = λ k lt. each k lt (cases_lt k n)
  where
    each : (k : ℕ) → k < n + 1 → (k < n) ⊎ (n ≤ k) → is_printable_byte (get_or bs k 0) ≡ true
    each k lt (inl below) = front k below
    each k lt (inr there) =
        let here : is_printable_byte (get_or bs n 0) ≡ true = grind (arith, nat_tests) in
        subst (λ (i : ℕ). is_printable_byte (get_or bs i 0) ≡ true) (omega (arith, lt, there)) here

-- this byte isn't
pub front_ends : (bs : List ℕ) (n : ℕ) → (32 ≤ get_or bs n 0 → get_or bs n 0 ≤ 126 → ⊥)
    → is_printable_byte (get_or bs n 0) ≡ false
front_ends bs n out = grind (arith, nat_tests)

-- the front of a block more
pub front_lanes : (bs : List ℕ) (at n run : ℕ) → IsPrintableTo bs at → IsFront bs at n run → IsPrintableTo bs (at + run)
front_lanes bs at n run front lanes = grind (arith, nat_tests, common_steps)

-- ---- lanes

-- Sixteen bytes were tested lane by lane, and the top bit of a lane is set just where its byte isn't printable.
module _ (d : List ℕ) (i : ℕ) (room : i + 16 ≤ length d) (fits : (k : ℕ) → Fits w8 (get_or d k 0)) (z : List ℕ)
    (f : ℕ → ℕ) (lanes : z ≡ map f (chunk i 16 d))
    (tells : agree_below (λ x. top 7 (f x)) (λ x. not (is_printable_byte x)) 256 ≡ true)
  where
    abbrev is_other : ℕ → Bool
    is_other x = top 7 (f x)

    told : (k : ℕ) → is_other (get_or d k 0) ≡ not (is_printable_byte (get_or d k 0))
    told k = agree_below_at is_other (λ x. not (is_printable_byte x)) 256 (get_or d k 0) tells (fits k).fits

    -- the mask of the lanes is that of the bytes
    masked : mask_l (map (top 7) z) % 2 ^ 64 ≡ mask_l (map is_other (chunk i 16 d))
    masked = ap (λ (m : List Bool). mask_l m % 2 ^ 64) (ap (map (top 7)) lanes ∙ map-map (top 7) f (chunk i 16 d))
        ∙ mask_l-mod (map is_other (chunk i 16 d)) 64
        (omega (arith, length-map (chunk i 16 d) is_other, length-chunk i 16 d room))

    counted_front : (r : ℕ) → r ≡ prefix_len (λ x. not (is_other x)) (chunk i 16 d) → IsFront d i 16 r
    counted_front r counted = record {
      most = run_in_chunk_le is_other d i 16 r 0 room counted;
      front = λ k from to. not-false _ (sym (told k) ∙ run_in_chunk_fails is_other d i 16 r 0 room counted k from to);
      end = λ short. not-true _ (sym (told (i + r)) ∙ run_in_chunk_stops is_other d i 16 r 0 room counted short);
    }

    pub none_set : mask_l (map (top 7) z) % 2 ^ 64 ≡ 0 → IsFront d i 16 16
    none_set none = counted_front 16 (sym (leading_from_mask_l is_other (chunk i 16 d) (sym masked ∙ none)
        ∙ length-chunk i 16 d room))

    pub first_set : mask_l (map (top 7) z) % 2 ^ 64 ≢ 0
        → IsFront d i 16 (count_trailing_zeros 64 (mask_l (map (top 7) z) % 2 ^ 64))
    first_set some = counted_front (count_trailing_zeros 64 (mask_l (map (top 7) z) % 2 ^ 64))
        (ap (count_trailing_zeros 64) masked
        ∙ trailing_mask_l is_other 64 (chunk i 16 d) (omega (arith, length-chunk i 16 d room)) (omega (arith, set)))
      where
        set : mask_l (map is_other (chunk i 16 d)) ≢ 0
        set e = some (masked ∙ e)

pub ruleset front_taken = (front_more, front_ends, front_lanes)

pub ruleset front_read = (front_whole, front_all, front_clear)
