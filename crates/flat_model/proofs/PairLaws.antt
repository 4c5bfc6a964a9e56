-- Pairs of numbers in order, by the first and then the second, as keys of an ordered map are.
use Rattle.flat_model.proofs.Prelude.{common_steps, nat_tests, ◌≡◌, ◌<◌, ◌≤◌, ◌⊎◌, ℕ, arith, IsLeBy, nat_cmp, ordering_then, Ordering, Less, Equal, Greater, eqb_tells, leb_tells, not_both}

abbrev pub by_both : ℕ × ℕ → ℕ × ℕ → Ordering
by_both x y = ordering_then (nat_cmp x.0 y.0) (nat_cmp x.1 y.1)

pub compare : (a b : ℕ)
    → ((nat_cmp a b ≡ Less) × (a < b)) ⊎ (((nat_cmp a b ≡ Equal) × (a ≡ b)) ⊎ ((nat_cmp a b ≡ Greater) × (b < a)))
compare a b = grind (arith, nat_tests, common_steps, leb_tells, eqb_tells)

pub first_le : (x y : ℕ × ℕ) → IsLeBy by_both x y → x.0 ≤ y.0
first_le x y h = grind (arith, nat_tests, common_steps, compare, not_both)

pub second_le : (x y : ℕ × ℕ) → x.0 ≡ y.0 → IsLeBy by_both x y → x.1 ≤ y.1
second_le x y same h = grind (arith, nat_tests, common_steps, compare, not_both)

pub same_le : (a b c : ℕ) → b ≤ c → IsLeBy by_both (a, b) (a, c)
same_le a b c le = grind (arith, nat_tests, common_steps, compare)
