pub use Rattle.bitmap.proofs.Prelude.{Bool, HasTwoLevels, List, add-one, ap, arith, bit_at, bit_at_clear_other, bit_at_clear_same, bit_at_ones, bit_at_set_other, bit_at_set_same, bit_on, cases_eq, cond, count_by, ext_get_or, false, flags_of, get_or, get_or-replicate, get_or-set_other, get_or-set_same, get_or_append_left, get_or_push, inl, inr, length, length-replicate, length-set, length_push, refl, replicate, set, slice_index, suc, sum_by-cons, sym, true, w64, with_bit, without_bit, zero, ℕ, ◌%◌, ◌+◌, ◌/◌, ◌<◌, ◌^◌, ◌∙◌, ◌≡◌, ◌≢◌}

-- a word other than that of r is as before
pub word_with_other : (ws : List ℕ) (r w : ℕ) → w ≢ r / 64 → slice_index (with_bit ws r) w ≡ slice_index ws w
unfolding with_bit
word_with_other ws r w ne = get_or-set_other ws (r / 64) w _ 0 ne

pub word_without_other : (ws : List ℕ) (r w : ℕ) → w ≢ r / 64 → slice_index (without_bit ws r) w ≡ slice_index ws w
unfolding without_bit
word_without_other ws r w ne = get_or-set_other ws (r / 64) w _ 0 ne

pub length_with_bit : (ws : List ℕ) (r : ℕ) → length (with_bit ws r) ≡ length ws
unfolding with_bit
length_with_bit ws r = length-set ws _ _

pub length_without_bit : (ws : List ℕ) (r : ℕ) → length (without_bit ws r) ≡ length ws
unfolding without_bit
length_without_bit ws r = length-set ws _ _

-- bit r is on after it is turned on, and off after it is turned off
pub on_with_bit : (ws : List ℕ) (r : ℕ) → r / 64 < length ws → bit_on (with_bit ws r) r ≡ true
unfolding bit_on with_bit
on_with_bit ws r lt = rw
    (get_or-set_same ws (r / 64) _ 0 lt, bit_at_set_same w64 (slice_index ws (r / 64)) (r % 64) (omega arith)) refl

pub off_without_bit : (ws : List ℕ) (r : ℕ) → r / 64 < length ws → bit_on (without_bit ws r) r ≡ false
unfolding bit_on without_bit
off_without_bit ws r lt = rw
    (get_or-set_same ws (r / 64) _ 0 lt, bit_at_clear_same w64 (slice_index ws (r / 64)) (r % 64) (omega arith)) refl

-- every other bit is as before, where it is so in the word that changes
on_other : (ws : List ℕ) (word r k : ℕ) → r / 64 < length ws → k ≢ r → (k % 64 ≢ r % 64
    → bit_at word (k % 64) ≡ bit_at (slice_index ws (r / 64)) (k % 64)) → bit_on (set ws (r / 64) word) k ≡ bit_on ws k
unfolding bit_on
on_other ws word r k lt ne same = elim (cases_eq (k / 64) (r / 64)) [
  | inl e ↦ rw (e, get_or-set_same ws (r / 64) word 0 lt, same (omega arith)) refl
  | inr n ↦ rw (get_or-set_other ws (r / 64) (k / 64) word 0 n) refl
]

pub on_with_other : (ws : List ℕ) (r k : ℕ) → r / 64 < length ws → k ≢ r → bit_on (with_bit ws r) k ≡ bit_on ws k
unfolding with_bit
on_with_other ws r k lt ne =
    on_other ws _ r k lt ne (bit_at_set_other w64 (slice_index ws (r / 64)) (r % 64) (omega arith) (k % 64))

pub on_without_other : (ws : List ℕ) (r k : ℕ) → r / 64 < length ws → k ≢ r → bit_on (without_bit ws r) k ≡ bit_on ws k
unfolding without_bit
on_without_other ws r k lt ne =
    on_other ws _ r k lt ne (bit_at_clear_other w64 (slice_index ws (r / 64)) (r % 64) (omega arith) (k % 64)
    (omega arith))

-- a word of ones has every bit on
pub on_in_full_word : (ws : List ℕ) (r : ℕ) → slice_index ws (r / 64) ≡ 18446744073709551615 → bit_on ws r ≡ true
unfolding bit_on
on_in_full_word ws r e = rw (e, bit_at_ones 64 (r % 64) (omega arith)) refl

-- so a word with a bit off is no word of ones
pub off_word_has_room : (ws : List ℕ) (r : ℕ) → bit_on ws r ≡ false → slice_index ws (r / 64) ≢ 18446744073709551615
off_word_has_room ws r off e = let on : bit_on ws r ≡ true = on_in_full_word ws r e in cc

-- the flags
pub length_flags : (ws : List ℕ) (n : ℕ) → length (flags_of ws n) ≡ n
unfolding flags_of
length_flags ws zero = refl
length_flags ws (suc n) = length_push (flags_of ws n) _ ∙ (rw (length_flags ws n, add-one) refl)

pub flag_at : (ws : List ℕ) (n r : ℕ) (d : Bool) → r < n → get_or (flags_of ws n) r d ≡ bit_on ws r
unfolding flags_of
flag_at ws zero r d lt = absurd (omega arith)
flag_at ws (suc n) r d lt = elim (cases_eq r n) [
  | inl e ↦ rw e (get_or_push (flags_of ws n) (bit_on ws n) d n (length_flags ws n))
  | inr ne ↦ (let short : r < length (flags_of ws n) = rw length_flags (omega arith) in
      get_or_append_left (flags_of ws n) _ d r short ∙ flag_at ws n r d (omega arith))
]

-- after one bit is set, the flags are as before but for that one
pub flags_after_set : (ws vs : List ℕ) (n r : ℕ) {b : Bool} → r < n → bit_on vs r ≡ b
    → ((k : ℕ) → k ≢ r → bit_on vs k ≡ bit_on ws k) → flags_of vs n ≡ set (flags_of ws n) r b
flags_after_set ws vs n r {b} lt here others =
    ext_get_or false _ _ (length_flags vs n ∙ sym (length-set (flags_of ws n) r b ∙ length_flags ws n))
    (λ k h. let below : k < n = rw (← length_flags vs n) h in
    flag_at vs n k false below ∙ elim (cases_eq k r) [
      | inl e ↦ rw e (here ∙ sym (get_or-set_same (flags_of ws n) r b false (rw length_flags lt)))
      | inr ne ↦ others k ne ∙ sym (get_or-set_other (flags_of ws n) r k b false ne ∙ flag_at ws n k false below)
    ])

-- the flags after a bit is turned on or off
pub flags_with_bit : (ws : List ℕ) (n r : ℕ) → r < n → r / 64 < length ws → flags_of (with_bit ws r) n
    ≡ set (flags_of ws n) r true
flags_with_bit ws n r lt within =
    flags_after_set ws (with_bit ws r) n r lt (on_with_bit ws r within) (λ k ne. on_with_other ws r k within ne)

pub flags_without_bit : (ws : List ℕ) (n r : ℕ) → r < n → r / 64 < length ws → flags_of (without_bit ws r) n
    ≡ set (flags_of ws n) r false
flags_without_bit ws n r lt within = flags_after_set ws (without_bit ws r) n r lt (off_without_bit ws r within)
    (λ k ne. on_without_other ws r k within ne)
