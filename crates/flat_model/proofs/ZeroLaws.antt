-- A page is all zeros exactly where each of its words is 0.
use Rattle.flat_model.proofs.Prelude.{◌≡◌, ℕ, suc, zero, ◌+◌, ◌*◌, ◌<◌, Bool, true, eqb, refl, sym, subst, arith, inl, inr, cases_eq, and_parts, nat_tests, Words, all_below, is_zero_page}

pub below_each : (test : ℕ → Bool) (n i : ℕ) → all_below test n ≡ true → i < n → test i ≡ true
below_each test zero i h lt = absurd (omega arith)
below_each test (suc n) i h lt = elim (cases_eq i n) [
  | inl same ↦ subst (λ (j : ℕ). test j ≡ true) (sym same) (and_parts _ _ h).0
  | inr other ↦ below_each test n i (and_parts _ _ h).1 (omega arith)
]

pub below_all : (test : ℕ → Bool) (n : ℕ) → ((i : ℕ) → i < n → test i ≡ true) → all_below test n ≡ true
below_all test zero each = refl
below_all test (suc n) each =
    let last : test n ≡ true = each n (omega arith) in
    let rest : all_below test n ≡ true = below_all test n (λ i lt. each i (omega arith)) in
    rw (last, rest) refl

pub zero_words : (words : Words) (u p i : ℕ) → is_zero_page words u p ≡ true → i < 1024 → words u (1024 * p + i) ≡ 0
unfolding is_zero_page
zero_words words u p i h lt =
    let at : eqb (words u (1024 * p + i)) 0 ≡ true = below_each (λ j. eqb (words u (1024 * p + j)) 0) 1024 i h lt in
    grind (arith, nat_tests)

pub words_zero : (words : Words) (u p : ℕ) → ((i : ℕ) → i < 1024 → words u (1024 * p + i) ≡ 0) → is_zero_page words u p
    ≡ true
unfolding is_zero_page
words_zero words u p each = below_all (λ j. eqb (words u (1024 * p + j)) 0) 1024
    (λ i lt. let is : words u (1024 * p + i) ≡ 0 = each i lt in grind (arith, nat_tests))
