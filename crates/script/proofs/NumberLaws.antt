-- Laws of decimal numbers.
use Rattle.script.proofs.Prelude.{◌≡◌, ℕ, ◌+◌, ◌-◌, ◌*◌, ◌^◌, ◌<◌, ◌≤◌, Bool, true, false, ◌&&◌, nat_le, cond, List, [], length, Option, Some, None, refl, sym, ap, ◌∙◌, arith, get_or, drop, nat_tests, common_steps, pow-add, is_ascii_digit, decimal_value, decimal_value_from, drop_at, pow-le-pow_right}

pub nil_step : (before : ℕ) → decimal_value_from before [] ≡ Some before
unfolding decimal_value_from
nil_step before = refl

pub number_starts : (text : List ℕ) → decimal_value_from 0 (drop 0 text) ≡ decimal_value_from 0 text
number_starts text = refl

pub number_next : (text : List ℕ) (i value : ℕ) → i < length text → 48 ≤ get_or text i 0 → get_or text i 0 ≤ 57
    → decimal_value_from value (drop i text) ≡ decimal_value_from 0 text
    → decimal_value_from (value * 10 + (get_or text i 0 - 48)) (drop (i + 1) text) ≡ decimal_value_from 0 text
unfolding decimal_value_from
number_next text i value lt low high h =
    let z : is_ascii_digit (get_or text i 0) ≡ true = grind (arith, nat_tests) in rw (drop_at text i lt, z) at h

pub number_below : (value digit i : ℕ) → value < 10 ^ i → digit ≤ 9 → value * 10 + digit < 10 ^ (i + 1)
number_below value digit i h d = rw (pow-add 10 i 1) (omega arith)

pub number_fits : (value i : ℕ) → value < 10 ^ i → i ≤ 10 → value < 10 ^ 10
number_fits value i h within = let m : 10 ^ i ≤ 10 ^ 10 = pow-le-pow_right (omega arith) within in omega arith

pub number_stops : (text : List ℕ) (i value : ℕ) → i < length text → (48 ≤ get_or text i 0 → get_or text i 0 ≤ 57 → ⊥)
    → decimal_value_from value (drop i text) ≡ decimal_value_from 0 text → None ≡ decimal_value text
unfolding decimal_value decimal_value_from
number_stops text i value lt out h =
    let z : is_ascii_digit (get_or text i 0) ≡ false = grind (arith, nat_tests) in
    let stopped : decimal_value_from 0 text ≡ None = sym (rw (drop_at text i lt, z) at h) in
    rw stopped (both (nat_le 1 (length text) && nat_le (length text) 10))
  where
    both : (z : Bool) → None ≡ cond {A = Option ℕ} z None None
    both true = refl
    both false = refl

pub number_ends : (text : List ℕ) (i value : ℕ) → length text ≤ i → 0 < length text → length text ≤ 10
    → decimal_value_from value (drop i text) ≡ decimal_value_from 0 text → Some value ≡ decimal_value text
unfolding decimal_value
number_ends text i value end some short h =
    let low : nat_le 1 (length text) ≡ true = grind (arith, nat_tests) in
    let high : nat_le (length text) 10 ≡ true = grind (arith, nat_tests) in
    let left : drop i text ≡ [] = grind (arith, common_steps) in
    rw (low, high) (sym (sym h ∙ ap (decimal_value_from value) left ∙ nil_step value))

pub number_empty : (text : List ℕ) → length text ≡ 0 → None ≡ decimal_value text
unfolding decimal_value
number_empty text h = rw h refl

pub number_long : (text : List ℕ) → 10 < length text → None ≡ decimal_value text
unfolding decimal_value
number_long text h =
    let high : nat_le (length text) 10 ≡ false = grind (arith, nat_tests) in
    let low : nat_le 1 (length text) ≡ true = grind (arith, nat_tests) in rw (low, high) refl

-- what reading a number digit by digit goes by
pub ruleset number_read = (
  number_starts,
  number_next,
  number_fits,
  number_below,
  number_stops,
  number_ends,
  number_empty,
  number_long,
)
