-- Rising uids: what stands beside a uid stands at its place; and a walk up a chain that changes the loads that cover.
use Rattle.quota_cells.proofs.Prelude.{common_steps, nat_tests, ◌≡◌, ◌≢◌, ℕ, suc, zero, ◌<◌, true, false, cond, eqb, ◌&&◌, List, [], ◌∷◌, length, refl, sym, ap, subst, ◌∙◌, arith, get_or, set, inl, inr, cases_Bool, cases_eq, cases_order, eqb-true, eq-eqb, ne_eqb, or_cases, and_parts, or_right, or_left, get_or-set_same, get_or-set_other, length-set, ext_get_or, AreUnder, look, has, with_value, covers, changed_where, IsRising, AreThere, IsFalling, rest_rises}
use Rattle.quota_cells.proofs.ColumnLaws.{look_with, length_changed, get_changed}

pub look_at : (ks vs : List ℕ) (i : ℕ) → IsRising ks → i < length ks → look ks vs (get_or ks i 0) ≡ get_or vs i 0
look_at [] vs i up lt = absurd (omega arith)
look_at (k ∷ ks) [] i up lt = refl
look_at (k ∷ ks) (v ∷ vs) zero up lt = rw (eq-eqb k k refl) refl
look_at (k ∷ ks) (v ∷ vs) (suc i) up lt =
    let less : k < get_or ks i 0 = up 0 (suc i) (omega arith) lt in
    rw (ne_eqb k (get_or ks i 0) (λ q. omega arith)) (look_at ks vs i (rest_rises k ks up) (omega arith))

pub set_at : (ks vs : List ℕ) (i v : ℕ) → IsRising ks → i < length ks → set vs i v ≡ with_value ks vs (get_or ks i 0) v
set_at [] vs i v up lt = absurd (omega arith)
set_at (k ∷ ks) [] i v up lt = refl
set_at (k ∷ ks) (w ∷ vs) zero v up lt = rw (eq-eqb k k refl) refl
set_at (k ∷ ks) (w ∷ vs) (suc i) v up lt =
    let less : k < get_or ks i 0 = up 0 (suc i) (omega arith) lt in
    rw (ne_eqb k (get_or ks i 0) (λ q. omega arith)) (cc (set_at ks vs i v (rest_rises k ks up) (omega arith)))

pub set_there : (ks vs : List ℕ) (i v : ℕ) {u : ℕ} → IsRising ks → i < length ks → get_or ks i 0 ≡ u → set vs i v
    ≡ with_value ks vs u v
set_there ks vs i v up lt is = cc (set_at ks vs i v up lt)

pub has_at : (ks : List ℕ) (i : ℕ) → i < length ks → has ks (get_or ks i 0) ≡ true
has_at [] i lt = absurd (omega arith)
has_at (k ∷ ks) zero lt = or_left (eqb k k) (has ks k) (eq-eqb k k refl)
has_at (k ∷ ks) (suc i) lt = or_right (eqb k (get_or ks i 0)) (has ks (get_or ks i 0)) (has_at ks i (omega arith))

pub absent : (ks : List ℕ) (u : ℕ) → ((i : ℕ) → i < length ks → get_or ks i 0 ≢ u) → has ks u ≡ false
absent [] u none = refl
absent (k ∷ ks) u none = rw (ne_eqb k u (none 0 (omega arith))) (absent ks u (λ i lt. none (suc i) (omega arith)))

apart : (ks : List ℕ) → IsRising ks → (i p : ℕ) → i < length ks → p < length ks → i ≢ p → get_or ks i 0 ≢ get_or ks p 0
apart ks up i p li lp ne e = elim (cases_order i p) [
  | inl same ↦ ne same
  | inr differ ↦ elim differ [
    | inl less ↦ (omega (arith, up i p less lp))
    | inr more ↦ (omega (arith, up p i more li))
  ]
]

-- what covers a chain is in it, so it's below what the chain is below
pub covers_under : (q : ℕ → ℕ) (x : ℕ) (xs : List ℕ) (e : ℕ) → AreUnder x xs → covers q xs e ≡ true → e < x
covers_under q x [] e a is = cc
covers_under q x (y ∷ ys) e a is = elim (or_cases (eqb y e) (eqb (q y) 0 && covers q ys e) is) [
  | inl here ↦ (omega (arith, eqb-true y e here))
  | inr there ↦ covers_under q x ys e a.1 (and_parts (eqb (q y) 0) (covers q ys e) there).1
]

pub covers_not : (q : ℕ → ℕ) (x : ℕ) (xs : List ℕ) → AreUnder x xs → covers q xs x ≡ false
covers_not q x xs a = elim (cases_Bool (covers q xs x))
    [ inl is ↦ absurd (omega (arith, covers_under q x xs x a is)) | inr isnt ↦ isnt ]

pub changed_none : (g : ℕ → ℕ) (q : ℕ → ℕ) (ks ws : List ℕ) → changed_where g (covers q []) ks ws ≡ ws
changed_none g q [] ws = refl
changed_none g q (k ∷ ks) [] = refl
changed_none g q (k ∷ ks) (w ∷ ws) = cc (changed_none g q ks ws)

-- a walk up a chain
pub record Going (g : ℕ → ℕ) (P : ℕ → Type 0) (ks : List ℕ) (q : ℕ → ℕ) (left ws goal : List ℕ) : Type 0 where
  pub loads : length ws ≡ length ks
  pub there : AreThere ks left
  pub falls : IsFalling left
  pub room : (e : ℕ) → covers q left e ≡ true → P (look ks ws e)
  pub so_far : changed_where g (covers q left) ks ws ≡ goal

module _ {g : ℕ → ℕ} {P : ℕ → Type 0} {ks : List ℕ} {q : ℕ → ℕ} {x : ℕ} {xs ws goal : List ℕ}
    (going : Going g P ks q (x ∷ xs) ws goal) (up : IsRising ks) {p : ℕ} (within : p < length ks)
    (is : get_or ks p 0 ≡ x) where
  abbrev changed : List ℕ
  changed = set ws p (g (get_or ws p 0))

  in_ws : p < length ws
  in_ws = (omega arith)

  here_covers : covers q (x ∷ xs) (get_or ks p 0) ≡ true
  here_covers = rw is (or_left (eqb x x) (eqb (q x) 0 && covers q xs x) (eq-eqb x x refl))

  pub going_here : P (get_or ws p 0)
  going_here = subst P (look_at ks ws p up within) (going.room (get_or ks p 0) here_covers)

  other_covers : (i : ℕ) → i < length ks → i ≢ p → covers q (x ∷ xs) (get_or ks i 0)
      ≡ (eqb (q x) 0 && covers q xs (get_or ks i 0))
  other_covers i lt ne = (let far = ne_eqb x (get_or ks i 0) (λ e. apart ks up i p lt within ne (cc)) in
      rw far refl)

  sizes : length changed ≡ length ws
  sizes = length-set ws p (g (get_or ws p 0))

  same_next : q x ≡ 0 → (i : ℕ) → i < length ks → get_or (changed_where g (covers q xs) ks changed) i 0
      ≡ get_or (changed_where g (covers q (x ∷ xs)) ks ws) i 0
  same_next zero_q i lt = elim (cases_eq i p) [
    | inl same ↦
        (let not_again : covers q xs (get_or ks p 0) ≡ false = rw is (covers_not q x xs going.falls.0) in
        let a : get_or (changed_where g (covers q xs) ks changed) p 0 ≡ g (get_or ws p 0) =
        get_changed g (covers q xs) ks changed p (sizes ∙ going.loads) within
        ∙ rw not_again (get_or-set_same ws p (g (get_or ws p 0)) 0 in_ws) in
        let b = get_changed g (covers q (x ∷ xs)) ks ws p going.loads within
        ∙ ap (λ t. cond t (g (get_or ws p 0)) (get_or ws p 0)) here_covers in
        rw same (a ∙ sym b))
    | inr other ↦
        (let c : covers q (x ∷ xs) (get_or ks i 0) ≡ covers q xs (get_or ks i 0) = other_covers i lt other
        ∙ rw (eq-eqb (q x) 0 zero_q) refl in
        get_changed g (covers q xs) ks changed i (sizes ∙ going.loads) lt ∙ rw (
          get_or-set_other ws
              p i (g (get_or ws p 0)) 0 other,
          ← c,
        ) (sym (get_changed g (covers q (x ∷ xs)) ks ws i going.loads lt)))
  ]

  same_end : q x ≢ 0 → (i : ℕ) → i < length ks → get_or changed i 0
      ≡ get_or (changed_where g (covers q (x ∷ xs)) ks ws) i 0
  same_end some_q i lt =
      grind (
        arith,
        nat_tests,
        common_steps,
        get_or-set_same ws p (g (get_or ws p 0)) 0 in_ws,
        get_changed g (covers q (x ∷ xs)) ks ws p going.loads within,
        here_covers,
        get_or ks i 0,
        other_covers,
        get_or-set_other,
        get_changed g (covers q (x ∷ xs)) ks ws i going.loads lt,
      )

  pub going_ends : q x ≢ 0 → changed ≡ goal
  going_ends some_q = (ext_get_or 0 changed
      (changed_where g (covers q (x ∷ xs)) ks ws) (sizes ∙ sym (length_changed g (covers q (x ∷ xs)) ks ws going.loads))
      (λ i lt. same_end some_q i (omega (arith, going.loads, sizes)))) ∙ going.so_far

  still_room : q x ≡ 0 → (e : ℕ) → covers q xs e ≡ true → P (look ks changed e)
  still_room zero_q e c =
      let there = has_at ks p within in
      let same : look ks changed e ≡ look ks ws e = ap (λ vs. look ks vs e)
      (set_at ks ws p (g (get_or ws p 0)) up within) ∙ look_with ks ws (get_or ks p 0) (g (get_or ws p 0)) e going.loads
      there ∙ rw (ne_eqb (get_or ks p 0) e (λ z. omega (arith, covers_under q x xs e going.falls.0 c))) refl in
      subst P (sym same) (going.room e (or_right (eqb x e) (eqb (q x) 0 && covers q xs e)
      (rw (eq-eqb (q x) 0 zero_q) c)))

  pub going_next : q x ≡ 0 → Going g P ks q xs changed goal
  going_next zero_q = record {
    loads = sizes ∙ going.loads;
    there = going.there.1;
    falls = going.falls.1;
    room = still_room zero_q;
    so_far = cc (ext_get_or 0 (changed_where g (covers q xs) ks changed)
        (changed_where g (covers q (x ∷ xs)) ks ws) (length_changed g (covers q xs) ks changed (sizes ∙ going.loads)
        ∙ sizes ∙ sym (length_changed g (covers q (x ∷ xs)) ks ws going.loads)) (λ i lt. same_next zero_q
        i (omega (arith, length_changed g (covers q xs) ks changed (sizes ∙ going.loads), going.loads, sizes))));
  }
