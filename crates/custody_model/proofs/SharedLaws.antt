-- Laws that several crates cite.
use Rattle.custody_model.proofs.Prelude.{nat_tests, List, [], ap, arith, eqb, inl, inr, length, refl, suc, true, zero, ℕ, ◌++◌, ◌+◌, ◌||◌, ◌∷◌, ◌≡◌, eqb_tells, list_any-append, list_any, has, range, common_steps}

pub has_head : (x : ℕ) (xs : List ℕ) → has (x ∷ xs) x ≡ true
has_head x xs = elim (eqb_tells x x) [ inl e ↦ rw e.0 refl | inr n ↦ absurd (n.1 refl) ]

pub range_length : (from n : ℕ) → length (range from n) ≡ n
range_length from zero = refl
range_length from (suc n) = ap suc (range_length (from + 1) n)

pub any_turned : (xs : List ℕ) (q : ℕ) → list_any (eqb q) xs ≡ true → has xs q ≡ true
any_turned [] q h = h
any_turned (x ∷ xs) q h = grind (arith, nat_tests, common_steps, eqb_tells)

pub has_tail : (f : ℕ) (fs : List ℕ) (g : ℕ) → has fs g ≡ true → has (f ∷ fs) g ≡ true
has_tail f fs g h = grind (arith, nat_tests, common_steps)

pub has_append : (xs ys : List ℕ) (j : ℕ) → has (xs ++ ys) j ≡ (has xs j || has ys j)
has_append xs ys j = list_any-append (λ y. eqb y j) xs ys

pub range_end : (from n : ℕ) → range from (suc n) ≡ range from n ++ (from + n) ∷ []
range_end from zero = let e : from ≡ from + 0 = omega arith in cc
range_end from (suc n) = grind (arith, nat_tests, common_steps, range_end (from + 1) n)
