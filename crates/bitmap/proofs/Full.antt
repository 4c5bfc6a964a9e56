-- A map of which all numbers are in use.
pub use Rattle.bitmap.proofs.BitLemmas.{HasTwoLevels, List, ap, arith, bit_on, cond, count_by, ext_get_or, flag_at, flags_of, get_or-replicate, length, length-replicate, length_flags, on_in_full_word, refl, replicate, suc, sum_by-cons, sym, true, zero, ℕ, ◌+◌, ◌/◌, ◌<◌, ◌^◌, ◌∙◌, ◌≡◌}

-- words with every bit on
abbrev ones : ℕ → List ℕ
ones n = replicate n 18446744073709551615

on_in_ones : (n r : ℕ) → r / 64 < n → bit_on (ones n) r ≡ true
on_in_ones n r lt = on_in_full_word (ones n) r (get_or-replicate {A = ℕ} n (r / 64) 18446744073709551615 0 lt)

count_all : (n : ℕ) → count_by (λ flag. flag) (replicate n true) ≡ n
count_all zero = refl
count_all (suc n) =
    let e = sum_by-cons (λ flag. cond {A = ℕ} flag 1 0) true (replicate n true) in
    omega (arith, e, count_all n)

pub flags_full : {ws : List ℕ} (size : ℕ) → ws ≡ ones ((size + 63) / 64) → flags_of ws size ≡ replicate size true
flags_full {ws} size is = ext_get_or true _ _ (length_flags ws size ∙ sym (length-replicate size true))
    (λ k lt. let below : k < size = rw (← length_flags ws size) lt in
    cc (
      flag_at ws size k true below,
      on_in_ones ((size + 63) / 64) k (omega (arith, below)),
      get_or-replicate size k true true below,
    ))

pub levels_full : (ws full : List ℕ) (size n : ℕ) → size < 2 ^ 32 → ws ≡ ones ((size + 63) / 64)
    → n ≡ (size + 63) / 64 → full ≡ ones ((n + 63) / 64) → HasTwoLevels ws full size size
levels_full ws full size n fits is words_are full_is_ones =
    let long : length ws ≡ (size + 63) / 64 = ap length is ∙ length-replicate {A = ℕ} ((size + 63) / 64) _ in
    let full_long : length full ≡ (n + 63) / 64 = ap length full_is_ones ∙ length-replicate {A = ℕ} ((n + 63) / 64) _ in
    record {
      fits = fits;
      covers = omega (arith, long);
      short = omega (arith, long, fits);
      padding = λ r above inside. cc (on_in_ones ((size + 63) / 64) r (omega (arith, long, inside)));
      full_covers = omega (arith, long, full_long, words_are);
      full_short = omega (arith, long, full_long, words_are, fits);
      full_padding = λ w above inside. cc (on_in_ones ((n + 63) / 64) w (omega (arith, full_long, inside)));
      full_is = λ w inside. cc (
        on_in_ones ((n + 63) / 64) w (omega (arith, long, words_are, inside)),
        get_or-replicate {A = ℕ} ((size + 63) / 64) w 18446744073709551615 0 (omega (arith, long, inside)),
      );
      counted = rw (flags_full size is) (sym (count_all size));
    }
