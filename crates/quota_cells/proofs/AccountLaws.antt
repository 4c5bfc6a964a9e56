-- The laws of accounts: what a page more, and another quota, do to the loads from scratch.
use Rattle.quota_cells.proofs.Prelude.{common_steps, ◌≡◌, ◌≢◌, ℕ, ◌+◌, true, false, cond, eqb, not, if◌then◌else◌, List, [], ◌∷◌, refl, arith, inl, inr, cases_Bool, cases_eq, both_ways, eqb-true, eq-eqb, ne_eqb, or_cases, and_parts, or_right, or_left, not-true, not_from_false, account, AreUnder, IsChain, EndsAtRoot, covers, load, is_an_account, nat_tests}
use Rattle.quota_cells.proofs.ColumnLaws.{weigh_same}
use Rattle.quota_cells.proofs.PlaceLaws.{covers_under, covers_not}

-- ---- the account of a chain covers it

pub account_covers : (q : ℕ → ℕ) (xs : List ℕ) → EndsAtRoot xs → covers q xs (account q xs) ≡ true
account_covers q [] e = absurd e
account_covers q (x ∷ []) e = grind (arith, nat_tests, common_steps, or_left)
account_covers q (x ∷ y ∷ ys) e = elim (cases_Bool (eqb (q x) 0)) [
  | inl none ↦ rw none (or_right (eqb x (account q (y ∷ ys))) (covers q (y ∷ ys) (account q (y ∷ ys)))
      (account_covers q (y ∷ ys) e.1))
  | inr some ↦ rw some (or_left (eqb x x) false (eq-eqb x x refl))
]

-- the account of what lies in a directory
abbrev pub account_from : (ℕ → List ℕ) → (ℕ → ℕ) → ℕ → ℕ
account_from f q e = if eqb (q e) 0 then account q (f e) else e

pub account_through : (f : ℕ → List ℕ) (q : ℕ → ℕ) (xs : List ℕ) (e : ℕ) → IsChain f xs → covers q xs e ≡ true
    → account q xs ≡ account_from f q e
account_through f q [] e c is = cc
account_through f q (x ∷ xs) e c is = elim (cases_eq x e) [
  | inl same ↦ rw (← same, ← c.0) refl
  | inr other ↦
      (let both : (eqb (q x) 0 ≡ true) × (covers q xs e ≡ true) = and_parts _ _ (rw (ne_eqb x e other) at is) in
      rw both.0 (account_through f q xs e c.2 both.1))
]

-- a root or a directory with a quota covers exactly what it's the account of
pub account_is : (q : ℕ → ℕ) (xs : List ℕ) (a : ℕ) → EndsAtRoot xs → is_an_account q a ≡ true → covers q xs a
    ≡ eqb (account q xs) a
account_is q [] a e is = absurd e
account_is q (x ∷ []) a e is = grind (arith, nat_tests, common_steps)
account_is q (x ∷ y ∷ ys) a e is = elim (cases_Bool (eqb (q x) 0)) [
  | inr some ↦ rw some (elim (cases_Bool (eqb x a)) [ inl t ↦ rw t refl | inr f ↦ rw f refl ])
  | inl none ↦ elim (cases_eq x a) [
    | inl same ↦ absurd (elim (or_cases (eqb a 1) (not (eqb (q a) 0)) is) [
      | inl root ↦ (omega (arith, eqb-true a 1 root))
      | inr quota ↦ both_ways (eqb (q a) 0) (not-true _ quota) (rw same at none)
    ])
    | inr other ↦ rw (none, ne_eqb x a other) (account_is q (y ∷ ys) a e.1 is)
  ]
]

-- ---- another quota

pub covers_same : (q r : ℕ → ℕ) (xs : List ℕ) (e : ℕ) → ((y : ℕ) → eqb (r y) 0 ≡ eqb (q y) 0) → covers r xs e
    ≡ covers q xs e
covers_same q r [] e same = refl
covers_same q r (x ∷ xs) e same = rw (same x, covers_same q r xs e same) refl

-- above a directory its own quota doesn't matter
pub covers_above : (q r : ℕ → ℕ) (x : ℕ) (xs : List ℕ) (e : ℕ) → ((y : ℕ) → y ≢ x → r y ≡ q y) → AreUnder x xs
    → covers r xs e ≡ covers q xs e
covers_above q r x [] e same a = refl
covers_above q r x (y ∷ ys) e same a = (let here : r y ≡ q y = same y (λ z. (omega arith)) in
    rw (here, covers_above q r x ys e same a.1) refl)

module _ (f : ℕ → List ℕ) (q r : ℕ → ℕ) (x : ℕ) (same : (y : ℕ) → y ≢ x → r y ≡ q y) (none : q x ≡ 0) (some : r x ≢ 0)
    (under : AreUnder x (f x)) where
  -- where x becomes an account, what covers x loses what x covers: for one chain
  appears_on : (e w : ℕ) (xs : List ℕ) → IsChain f xs
      → cond (covers r xs e) w 0 + cond (covers q (f x) e) (cond (covers q xs x) w 0) 0 ≡ cond (covers q xs e) w 0
  appears_on e w [] c = elim (cases_Bool (covers q (f x) e)) [ inl t ↦ rw t refl | inr u ↦ rw u refl ]
  appears_on e w (y ∷ ys) c =
      grind (arith, nat_tests, common_steps, covers_not q y ys c.1, covers_under, appears_on e w ys c.2)

  pub appears : ((k : ℕ) → IsChain f (f k)) → (ks ws : List ℕ) (e : ℕ)
      → load f r ks ws e + cond (covers q (f x) e) (load f q ks ws x) 0 ≡ load f q ks ws e
  appears chains [] ws e = elim (cases_Bool (covers q (f x) e)) [ inl t ↦ rw t refl | inr u ↦ rw u refl ]
  appears chains (k ∷ ks) [] e = elim (cases_Bool (covers q (f x) e)) [ inl t ↦ rw t refl | inr u ↦ rw u refl ]
  appears chains (k ∷ ks) (w ∷ ws) e =
      grind (arith, nat_tests, common_steps, appears chains ks ws e, appears_on e w (f k) (chains k))

  -- its own load stays
  pub appears_own : ((k : ℕ) → IsChain f (f k)) → (ks ws : List ℕ) → load f r ks ws x ≡ load f q ks ws x
  appears_own chains ks ws = grind (arith, nat_tests, common_steps, appears, covers_not)

pub load_same : (f : ℕ → List ℕ) (q r : ℕ → ℕ) → ((y : ℕ) → eqb (r y) 0 ≡ eqb (q y) 0) → (ks ws : List ℕ) (e : ℕ)
    → load f r ks ws e ≡ load f q ks ws e
load_same f q r same ks ws e = weigh_same (λ k. covers r (f k) e) (λ k. covers q (f k) e) ks ws
    (λ k h. covers_same q r (f k) e same)

pub account_of_chain : (q : ℕ → ℕ) (xs : List ℕ) → is_an_account q (account q xs) ≡ true
account_of_chain q [] = refl
account_of_chain q (x ∷ xs) = grind (arith, nat_tests, common_steps, account_of_chain q xs, or_right, not_from_false)
