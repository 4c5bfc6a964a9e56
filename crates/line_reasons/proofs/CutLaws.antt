-- Laws of a text that is cut at the first such byte.
use Rattle.line_reasons.proofs.Prelude.{◌≡◌, ℕ, ◌+◌, ◌<◌, ◌≤◌, Bool, true, false, cond, ltb, List, [], ◌∷◌, length, take, drop, Some, None, refl, subst, arith, slice_split, position, position_or_len, nat_tests, All-from_get_or, slice_split_first, slice_split_none, fails_before_first}

pub cut_at : (p : ℕ → Bool) (xs : List ℕ) (i : ℕ) → position p xs ≡ Some i
    → (i < length xs) × (slice_split p xs ≡ take i xs ∷ slice_split p (drop (i + 1) xs))
cut_at p xs i h = by_test (ltb (position_or_len p xs) (length xs)) refl h
  where
    by_test : (z : Bool) → ltb (position_or_len p xs) (length xs) ≡ z → cond z (Some (position_or_len p xs)) None
        ≡ Some i
        → (i < length xs) × (slice_split p xs ≡ take i xs ∷ slice_split p (drop (i + 1) xs))
    by_test true e is =
        let same : position_or_len p xs ≡ i = cc in
        let lt : position_or_len p xs < length xs = grind (arith, nat_tests) in (
          omega arith,
          subst (λ (j : ℕ). slice_split p xs ≡ take j xs ∷ slice_split p (drop (j + 1) xs)) same
              (slice_split_first p xs 0 lt),
        )
    by_test false e is = absurd (let no : None ≡ Some i = is in cc)

pub no_cut : (p : ℕ → Bool) (xs : List ℕ) → position p xs ≡ None → slice_split p xs ≡ xs ∷ []
no_cut p xs h = slice_split_none p xs (All-from_get_or (λ x. p x ≡ false) xs 0
    (λ i lt. fails_before_first p xs i 0 (omega (arith, far))))
  where
    by_test : (z : Bool) → ltb (position_or_len p xs) (length xs) ≡ z → cond z (Some (position_or_len p xs)) None ≡ None
        → length xs ≤ position_or_len p xs
    by_test true e is = absurd (let no : Some (position_or_len p xs) ≡ None = is in cc)
    by_test false e is = grind (arith, nat_tests)

    far : length xs ≤ position_or_len p xs
    far = by_test (ltb (position_or_len p xs) (length xs)) refl h

-- what a cut of a text goes by
pub ruleset text_cut = (cut_at, no_cut)
