pub use Rattle.bitmap.proofs.Prelude.{Global, HasTwoLevels, IsClear, List, Vec, ap, arith, bit_at-zero, bit_at_mask_below, bit_at_mask_inside, bit_on, cases_eq, cond, count_by, ext_get_or, false, flags_of, get_or-replicate, get_or-set_other, get_or-set_same, inl, inr, length, length-replicate, length-set, ones_shl, refl, replicate, set, slice_index, suc, sum_by-cons, sym, zero, ℕ, ◌%◌, ◌*◌, ◌+◌, ◌-◌, ◌/◌, ◌<◌, ◌^◌, ◌∙◌, ◌≡◌, ◌≢◌, ◌≤◌}
use Rattle.bitmap.proofs.Levels.{flag_at, length_flags, off_test, off_word_has_room}

-- words of zeros have every bit off
off_in_zeros : (n r : ℕ) → r / 64 < n → bit_on (replicate {A = ℕ} n 0) r ≡ false
unfolding bit_on
off_in_zeros n r lt = rw (get_or-replicate {A = ℕ} n (r / 64) 0 0 lt, bit_at-zero (r % 64)) refl

-- a number of bits that fills its words
pub clear_whole : {ws : List ℕ} {n count : ℕ} → ws ≡ replicate {A = ℕ} n 0 → n ≡ (count + 63) / 64 → count % 64 ≡ 0
    → IsClear ws count
clear_whole {ws} {n} is long whole = let words : length ws ≡ n = ap length is ∙ length-replicate {A = ℕ} n 0 in record {
  long = cc;
  off = λ k lt. let inside : k / 64 < n = omega arith in rw is (off_in_zeros n k inside);
  padding = λ k above inside. absurd (omega arith);
}

-- a number of bits that leaves a part of its last word
pub clear_part : {ws : List ℕ} {n count : ℕ} → ws ≡ set (replicate {A = ℕ} n 0) (count / 64)
    (18446744073709551615 * 2 ^ (count % 64) % 2 ^ 64) → n ≡ (count + 63) / 64 → count % 64 ≢ 0 → IsClear ws count
unfolding bit_on
clear_part {ws} {n} {count} is long part =
    let words : length ws ≡ n = ap length is ∙ length-set (replicate {A = ℕ} n 0) (count / 64) _
    ∙ length-replicate {A = ℕ} n 0 in
    let mask = 18446744073709551615 * 2 ^ (count % 64) % 2 ^ 64 in
    let mask_is = ones_shl 64 (count % 64) (omega arith) in
    let there : count / 64 < length (replicate {A = ℕ} n 0) = omega (arith, length-replicate {A = ℕ} n 0) in
    let last : slice_index ws (count / 64) ≡ 2 ^ 64 - 2 ^ (count % 64) =
    rw is (get_or-set_same (replicate {A = ℕ} n 0) (count / 64) mask 0 there ∙ mask_is) in
    record {
      long = cc;
      off = λ k lt. elim (cases_eq (k / 64) (count / 64)) [
        | inl e ↦ rw (e, last, bit_at_mask_below (count % 64) 64 (k % 64) (omega arith)) refl
        | inr ne ↦ rw (is, get_or-set_other (replicate {A = ℕ} n 0) (count / 64) (k / 64) mask 0 ne)
            (off_in_zeros n k (omega arith))
      ];
      padding = λ k above inside. let same : k / 64 ≡ count / 64 = omega arith in let high : count % 64 ≤ k % 64 =
          omega arith in
          rw (same, last, bit_at_mask_inside (count % 64) 64 (k % 64) high (omega arith)) refl;
    }

count_none : (n : ℕ) → count_by (λ flag. flag) (replicate n false) ≡ 0
count_none zero = refl
count_none (suc n) =
    let e = sum_by-cons (λ flag. cond {A = ℕ} flag 1 0) false (replicate n false) in
    omega (arith, e, count_none n)

-- a map that is all free
pub flags_clear : {ws : List ℕ} {size : ℕ} → IsClear ws size → flags_of ws size ≡ replicate size false
flags_clear {ws} {size} h = ext_get_or false _ _ (length_flags ws size ∙ sym (length-replicate size false))
    (λ k lt. let below : k < size = rw (← length_flags ws size) lt in
    flag_at ws size k false below ∙ h.off k below ∙ sym (get_or-replicate size k false false below))

pub levels_clear : (ws full : List ℕ) (size n : ℕ) → size < 2 ^ 32 → IsClear ws size → IsClear full n → n
    ≡ (size + 63) / 64 → HasTwoLevels ws full size 0
levels_clear ws full size n fits h g is = record {
  fits = fits;
  covers = omega (arith, h.long);
  short = omega (arith, h.long);
  padding = h.padding;
  full_covers = omega (arith, h.long, g.long);
  full_short = omega (arith, h.long, g.long);
  full_padding = λ w above inside. g.padding w (omega (arith, h.long)) inside;
  full_is = λ w inside. let first : 64 * w < size = omega (arith, h.long) in let place : 64 * w / 64 ≡ w =
      omega arith in
      g.off w (omega (arith, h.long)) ∙ sym (off_test _ _
      (rw place at (off_word_has_room ws (64 * w) (h.off (64 * w) first))));
  counted = rw (flags_clear h) (sym (count_none size));
}
