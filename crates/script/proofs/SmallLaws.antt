-- Small laws of tests and lists (own).
use Rattle.script.proofs.Prelude.{◌≡◌, ℕ, suc, ◌+◌, ◌<◌, ◌≤◌, true, false, nat_le, List, [], ◌∷◌, ◌++◌, length, refl, sym, ap, arith, add-one, drop, drop-cons, slice_index_or, common_steps, nat_tests, is_inside, reach, is_from, Stage}

pub nil_after : {X : Type 0} → (xs : List X) → xs ++ [] ≡ xs
nil_after [] = refl
nil_after (x ∷ xs) = ap (λ t. x ∷ t) (nil_after xs)

-- what is left of a list from one of its elements on, and past its end
pub left_at : {X : Type 0} (xs : List X) (i : ℕ) (x : X) → i < length xs → x ≡ slice_index_or xs i x
    → drop i xs ≡ x ∷ drop (i + 1) xs
left_at xs i x lt e = rw (add-one, drop-cons xs i x) (ap (λ y. y ∷ drop (suc i) xs) (sym e))

pub none_left : {X : Type 0} (xs : List X) (i : ℕ) → length xs ≤ i → drop i xs ≡ []
none_left xs i h = grind (arith, common_steps)

-- what a test of a range says
pub within : (low high n : ℕ) → is_from low high n ≡ true → (low ≤ n) × (n ≤ high)
within low high n h = (grind (arith, nat_tests), grind (arith, nat_tests))

pub at_most : (n limit : ℕ) → nat_le n limit ≡ true → n ≤ limit
at_most n limit h = grind (arith, nat_tests)

-- between these stages no commands stand next
pub outside : (s : Stage) (low high : ℕ) → high < 6 → is_from low high (reach s) ≡ true → is_inside s ≡ false
outside s low high before h = grind (arith, nat_tests)
