-- Values beside uids: one set, all of some changed, one more and one less.
use Rattle.quota_cells.proofs.Prelude.{common_steps, nat_tests, ◌≡◌, ◌≢◌, ℕ, suc, zero, ◌+◌, ◌<◌, ◌≤◌, Bool, true, eqb, if◌then◌else◌, List, [], ◌∷◌, length, refl, ap, arith, get_or, inl, inr, sum, cases_Bool, cases_eq, eq-eqb, ne_eqb, or_right, or_left, sum_by-cons, look, has, with_value, weigh, changed_where}

-- one value set
pub look_with : (ks vs : List ℕ) (u v w : ℕ) → length vs ≡ length ks → has ks u ≡ true
    → look ks (with_value ks vs u v) w ≡ (if eqb u w then v else look ks vs w)
look_with [] vs u v w len e = cc
look_with (k ∷ ks) [] u v w len e = absurd (omega arith)
look_with (k ∷ ks) (x ∷ vs) u v w len e = elim (cases_eq k u) [
  | inl same ↦ elim (cases_eq u w) [
    | inl here ↦ rw (eq-eqb k u same, eq-eqb k w (omega arith), eq-eqb u w here) refl
    | inr there ↦ rw (eq-eqb k u same, ne_eqb k w (λ q. there (omega arith)), ne_eqb u w there) refl
  ]
  | inr other ↦
      (let far = ne_eqb k u other in
      let rest : has ks u ≡ true = rw far at e in
      let ih = look_with ks vs u v w (omega arith) rest in
      elim (cases_eq k w) [
        | inl here ↦ rw (far, eq-eqb k w here, ne_eqb u w (λ q. other (omega arith))) refl
        | inr there ↦ rw (far, ne_eqb k w there) ih
      ])
]

-- a value set leaves those beside other uids
pub look_with_other : (ks vs : List ℕ) (u v w : ℕ) → u ≢ w → look ks (with_value ks vs u v) w ≡ look ks vs w
look_with_other [] vs u v w ne = refl
look_with_other (k ∷ ks) [] u v w ne = refl
look_with_other (k ∷ ks) (x ∷ vs) u v w ne = grind (arith, nat_tests, common_steps, look_with_other ks vs u v w ne)

pub length_with : (ks vs : List ℕ) (u v : ℕ) → length (with_value ks vs u v) ≡ length vs
length_with [] vs u v = refl
length_with (k ∷ ks) [] u v = refl
length_with (k ∷ ks) (x ∷ vs) u v = elim (cases_Bool (eqb k u))
    [ inl is ↦ rw is refl | inr isnt ↦ rw isnt (ap suc (length_with ks vs u v)) ]

pub sum_with : (ks vs : List ℕ) (u v : ℕ) → length vs ≡ length ks → has ks u ≡ true
    → sum (with_value ks vs u v) + look ks vs u ≡ sum vs + v
sum_with [] vs u v len e = cc
sum_with (k ∷ ks) [] u v len e = absurd (omega arith)
sum_with (k ∷ ks) (x ∷ vs) u v len e = elim (cases_Bool (eqb k u)) [
  | inl is ↦ rw is (omega (arith, sum_by-cons (λ (y : ℕ). y) v vs, sum_by-cons (λ (y : ℕ). y) x vs))
  | inr isnt ↦
      (let rest : has ks u ≡ true = rw isnt at e in
      rw isnt (let a = sum_by-cons (λ (y : ℕ). y) x (with_value ks vs u v) in let b =
      sum_by-cons (λ (y : ℕ). y) x vs in omega (arith, sum_with ks vs u v (omega arith) rest)))
]

pub look_le_sum : (ks vs : List ℕ) (u : ℕ) → look ks vs u ≤ sum vs
look_le_sum [] vs u = omega arith
look_le_sum (k ∷ ks) [] u = omega arith
look_le_sum (k ∷ ks) (x ∷ vs) u = grind (arith, nat_tests, common_steps, sum_by-cons, look_le_sum ks vs u)

pub two_le_sum : (ks vs : List ℕ) (u w : ℕ) → u ≢ w → look ks vs u + look ks vs w ≤ sum vs
two_le_sum [] vs u w ne = omega arith
two_le_sum (k ∷ ks) [] u w ne = omega arith
two_le_sum (k ∷ ks) (x ∷ vs) u w ne = (let b = sum_by-cons (λ (y : ℕ). y) x vs in elim (cases_eq k u) [
  | inl here ↦ rw (eq-eqb k u here, ne_eqb k w (λ q. ne (omega arith))) (omega (arith, look_le_sum ks vs w))
  | inr off ↦ elim (cases_eq k w) [
    | inl there ↦ rw (ne_eqb k u off, eq-eqb k w there) (omega (arith, look_le_sum ks vs u))
    | inr far ↦ rw (ne_eqb k u off, ne_eqb k w far) (omega (arith, two_le_sum ks vs u w ne))
  ]
])

-- all of some changed
pub look_changed : (g : ℕ → ℕ) (t : ℕ → Bool) (ks ws : List ℕ) (u : ℕ) → length ws ≡ length ks → has ks u ≡ true
    → look ks (changed_where g t ks ws) u ≡ (if t u then g (look ks ws u) else look ks ws u)
look_changed g t [] ws u len e = cc
look_changed g t (k ∷ ks) [] u len e = absurd (omega arith)
look_changed g t (k ∷ ks) (w ∷ ws) u len e = elim (cases_eq k u) [
  | inl same ↦ rw (eq-eqb k u same, same) refl
  | inr other ↦ (let far = ne_eqb k u other in rw far (look_changed g t ks ws u (omega arith) (rw far at e)))
]

pub length_changed : (g : ℕ → ℕ) (t : ℕ → Bool) (ks ws : List ℕ) → length ws ≡ length ks
    → length (changed_where g t ks ws) ≡ length ws
length_changed g t [] ws len = refl
length_changed g t (k ∷ ks) [] len = refl
length_changed g t (k ∷ ks) (w ∷ ws) len = ap suc (length_changed g t ks ws (omega arith))

pub get_changed : (g : ℕ → ℕ) (t : ℕ → Bool) (ks ws : List ℕ) (i : ℕ) → length ws ≡ length ks → i < length ks
    → get_or (changed_where g t ks ws) i 0 ≡ (if t (get_or ks i 0) then g (get_or ws i 0) else get_or ws i 0)
get_changed g t [] ws i len lt = absurd (omega arith)
get_changed g t (k ∷ ks) [] i len lt = absurd (omega arith)
get_changed g t (k ∷ ks) (w ∷ ws) zero len lt = refl
get_changed g t (k ∷ ks) (w ∷ ws) (suc i) len lt = get_changed g t ks ws i (omega arith) (omega arith)

-- a weight where one value is set
pub weigh_with : (t : ℕ → Bool) (ks ws : List ℕ) (u v : ℕ) → length ws ≡ length ks → has ks u ≡ true
    → weigh t ks (with_value ks ws u v) + (if t u then look ks ws u else 0) ≡ weigh t ks ws + (if t u then v else 0)
weigh_with t [] ws u v len e = cc
weigh_with t (k ∷ ks) [] u v len e = absurd (omega arith)
weigh_with t (k ∷ ks) (w ∷ ws) u v len e = elim (cases_eq k u) [
  | inl same ↦ rw (eq-eqb k u same, same) (elim (cases_Bool (t u))
      [ inl is ↦ rw is (omega arith) | inr isnt ↦ rw isnt (omega arith) ])
  | inr other ↦
      (let far = ne_eqb k u other in
      rw far (omega (arith, weigh_with t ks ws u v (omega arith) (rw far at e))))
]

pub weigh_same : (s t : ℕ → Bool) (ks ws : List ℕ) → ((k : ℕ) → has ks k ≡ true → s k ≡ t k) → weigh s ks ws
    ≡ weigh t ks ws
weigh_same s t [] ws same = refl
weigh_same s t (k ∷ ks) [] same = refl
weigh_same s t (k ∷ ks) (w ∷ ws) same = rw (
  same k (or_left (eqb k k) (has ks k) (eq-eqb k k refl)),
  weigh_same s t ks ws (λ j h. same j (or_right (eqb k j) (has ks j) h)),
) refl

pub look_le_weigh : (t : ℕ → Bool) (ks ws : List ℕ) (u : ℕ) → t u ≡ true → look ks ws u ≤ weigh t ks ws
look_le_weigh t [] ws u is = omega arith
look_le_weigh t (k ∷ ks) [] u is = omega arith
look_le_weigh t (k ∷ ks) (w ∷ ws) u is = grind (arith, nat_tests, common_steps, look_le_weigh t ks ws u is)

pub weigh_le_on : (s t : ℕ → Bool) (ks ws : List ℕ) → ((k : ℕ) → has ks k ≡ true → s k ≡ true → t k ≡ true)
    → weigh s ks ws ≤ weigh t ks ws
weigh_le_on s t [] ws le = omega arith
weigh_le_on s t (k ∷ ks) [] le = omega arith
weigh_le_on s
    t (k ∷ ks) (w ∷ ws) le = (let ih = weigh_le_on s t ks ws (λ j h. le j (or_right (eqb k j) (has ks j) h)) in
    elim (cases_Bool (s k)) [
      | inl is ↦ (let also = le k (or_left (eqb k k) (has ks k) (eq-eqb k k refl)) is in rw (is, also) (omega arith))
      | inr isnt ↦ rw isnt (omega arith)
    ])
