-- Keys of two numbers in an ordered map.
use Rattle.flat_model.proofs.Prelude.{◌≡◌, ℕ, Bool, eqb, ◌&&◌, refl, ap, ◌∙◌, nat_cmp, ordering_then, is_eq, unsigned_tied, is_at, Ordering, Less, Equal, Greater}

then_eq : (a b : Ordering) → is_eq (ordering_then a b) ≡ (is_eq a && is_eq b)
then_eq Less b = refl
then_eq Equal b = refl
then_eq Greater b = refl

-- whether a key is that of these two numbers
abbrev is_key : ℕ → ℕ → ℕ × ℕ → Bool
is_key a b = is_at (λ y. ordering_then (nat_cmp a y.0) (nat_cmp b y.1))

pub key_is : (a b x y : ℕ) → is_key a b (x, y) ≡ (eqb a x && eqb b y)
key_is a b x y = then_eq (nat_cmp a x) (nat_cmp b y) ∙ ap (λ (z : Bool). z && is_eq (nat_cmp b y)) (unsigned_tied a x)
    ∙ ap (λ (z : Bool). eqb a x && z) (unsigned_tied b y)
