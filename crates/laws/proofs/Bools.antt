-- Laws of booleans.
use Rattle.laws.proofs.Prelude.{Bool, arith, cond, false, inl, inr, not, refl, sym, true, ◌&&◌, ◌||◌, ◌∙◌, ◌≡◌, ◌≤◌, ◌⊎◌}

pub not_both : {b : Bool} → b ≡ true → b ≡ false → ⊥
not_both t f = let z : true ≡ false = sym t ∙ f in cc

pub and_parts : (a b : Bool) → (a && b) ≡ true → (a ≡ true) × (b ≡ true)
and_parts true b h = (refl, h)
and_parts false b h = absurd (let none : false ≡ true = h in cc)

pub and_false : (z : Bool) → (z && false) ≡ false
and_false true = refl
and_false false = refl

pub not_true : (b : Bool) → not b ≡ true → b ≡ false
not_true true h = let no : false ≡ true = h in absurd cc
not_true false h = refl

pub off_and_on : (b : Bool) → b ≡ false → b ≡ true → ⊥
off_and_on b h i = cc

pub or_cases : (a b : Bool) → (a || b) ≡ true → (a ≡ true) ⊎ (b ≡ true)
or_cases true b h = inl refl
or_cases false b h = inr h

pub second_false : (a b : Bool) → (a || b) ≡ false → b ≡ false
second_false false b h = h
second_false true b h = cc

pub or_true : (a : Bool) → (a || true) ≡ true
or_true true = refl
or_true false = refl

pub bit_le : (t : Bool) → cond t 1 0 ≤ 1
bit_le true = omega arith
bit_le false = omega arith

pub by_not : (b : Bool) → not b ≡ false → b ≡ true
by_not true h = refl
by_not false h = absurd (let no : true ≡ false = h in cc)

pub and_first : (a b : Bool) → (a && b) ≡ true → a ≡ true
and_first true b h = refl
and_first false b h = absurd (let no : false ≡ true = h in cc)

pub and_right : (a b : Bool) → (a && b) ≡ true → b ≡ true
and_right true b e = e
and_right false b e = cc

pub first_false : (a b : Bool) → (a || b) ≡ false → a ≡ false
first_false true b h = h
first_false false b h = refl

pub room_parts : (a b c : Bool) → (not a && (b && c)) ≡ true → (a ≡ false) × (b ≡ true) × (c ≡ true)
room_parts true b c e = cc
room_parts false true true e = (refl, refl, refl)
room_parts false true false e = cc
room_parts false false c e = cc
