-- Laws of numbers that rise, and of the place of a number in a list.
use Rattle.laws.proofs.Prelude.{Bool, List, [], arith, eqb, get_or, inl, inr, length, suc, true, false, ℕ, ◌||◌, ◌<◌, ◌∷◌, ◌≡◌, cases_Bool, eqb-true, or_cases}

-- whether a number is one of these
abbrev pub stands_in : List ℕ → ℕ → Bool
stands_in [] u = false
stands_in (k ∷ ks) u = eqb k u || stands_in ks u

abbrev pub Rises : List ℕ → Type 0
Rises ks = (i j : ℕ) → i < j → j < length ks → get_or ks i 0 < get_or ks j 0

pub rest_rises : (k : ℕ) (ks : List ℕ) → Rises (k ∷ ks) → Rises ks
rest_rises k ks up i j lt within = up (suc i) (suc j) (omega arith) (omega arith)

pub place_there : (ks : List ℕ) (u : ℕ) → stands_in ks u ≡ true
    → (i : ℕ) × (i < length ks) × (get_or ks i 0 ≡ u)
place_there [] u is = cc
place_there (k ∷ ks) u is = elim (or_cases (eqb k u) (stands_in ks u) is) [
  | inl here ↦ (0, omega arith, eqb-true k u here)
  | inr later ↦ (let p = place_there ks u later in (suc p.0, omega (arith, p.1), p.2))
]

-- the first is less than all others, and so none of them
pub first_less : (k u : ℕ) (ks : List ℕ) → Rises (k ∷ ks) → stands_in ks u ≡ true → k < u
first_less k u ks up is =
    let p = place_there ks u is in let less = up 0 (suc p.0) (omega arith) (omega (arith, p.1)) in
    omega (arith, less, p.2)

pub first_once : (k : ℕ) (ks : List ℕ) → Rises (k ∷ ks) → stands_in ks k ≡ false
first_once k ks up = elim (cases_Bool (stands_in ks k)) [
  | inl is ↦ (let less = first_less k k ks up is in absurd (omega (arith, less)))
  | inr isnt ↦ isnt
]
