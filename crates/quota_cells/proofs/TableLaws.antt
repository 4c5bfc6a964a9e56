-- Tables by uid: the uids that are there, and what stands beside them.
use Rattle.quota_cells.proofs.Prelude.{common_steps, ◌≡◌, ℕ, suc, zero, ◌+◌, ◌-◌, ◌<◌, ◌≤◌, Bool, true, false, eqb, List, [], ◌∷◌, ◌++◌, length, length-append, length-replicate, replicate, refl, sym, ◌∙◌, arith, get_or, set, inl, inr, cases_eq, cases_lt, eq-eqb, ne_eqb, lt-ltb, le-ltb, false_from_ne_true, get_or-set_same, get_or-set_other, look, has, with_value, with_beside, without_beside, IsRising, NumberMap, beside, no_numbers, numbers_of, uids_from, with_uid, without_uid, nat_tests}
use Rattle.quota_cells.proofs.PadLaws.{blanks_next, set_end}

-- ---- uids in order, none below this one

abbrev Rises : ℕ → List ℕ → Type 0
Rises f [] = Unit {0}
Rises f (k ∷ ks) = (f ≤ k) × Rises (k + 1) ks

lower : (f g : ℕ) (ks : List ℕ) → f ≤ g → Rises g ks → Rises f ks
lower f g [] le r = tt
lower f g (k ∷ ks) le r = (omega arith, r.1)

below_absent : (f x : ℕ) (ks : List ℕ) → Rises f ks → x < f → has ks x ≡ false
below_absent f x [] r lt = refl
below_absent f x (k ∷ ks) r lt =
    rw (ne_eqb k x (λ q. omega (arith, r.0))) (below_absent (k + 1) x ks r.1 (omega (arith, r.0)))

all_from : (f : ℕ) (ks : List ℕ) (j : ℕ) → Rises f ks → j < length ks → f ≤ get_or ks j 0
all_from f [] j r lt = absurd (omega arith)
all_from f (k ∷ ks) zero r lt = r.0
all_from f (k ∷ ks) (suc j) r lt = omega (arith, r.0, all_from (k + 1) ks j r.1 (omega (arith, r.0)))

in_order : (f : ℕ) (ks : List ℕ) → Rises f ks → IsRising ks
in_order f [] r i j lt within = absurd (omega arith)
in_order f (k ∷ ks) r zero zero lt within = absurd (omega arith)
in_order f (k ∷ ks) r zero (suc j) lt within = omega (arith, all_from (k + 1) ks j r.1 (omega arith))
in_order f (k ∷ ks) r (suc i) zero lt within = absurd (omega arith)
in_order f (k ∷ ks) r (suc i) (suc j) lt within = in_order (k + 1) ks r.1 i j (omega arith) (omega arith)

-- ---- the uids that are there

rises : (f : ℕ) (bs : List Bool) → Rises f (uids_from f bs)
unfolding uids_from
rises f [] = tt
rises f (true ∷ bs) = (omega arith, rises (f + 1) bs)
rises f (false ∷ bs) = lower f (f + 1) (uids_from (f + 1) bs) (omega arith) (rises (f + 1) bs)

pub uids_rise : (bs : List Bool) → IsRising (uids_from 0 bs)
uids_rise bs = in_order 0 (uids_from 0 bs) (rises 0 bs)

there_from : (f u x : ℕ) (bs : List Bool) → x ≡ f + u → has (uids_from f bs) x ≡ get_or bs u false
unfolding uids_from
there_from f u x [] e = refl
there_from f zero x (true ∷ bs) e = rw (eq-eqb f x (omega arith)) refl
there_from f (suc u) x (true ∷ bs) e = rw (ne_eqb f x (λ q. omega arith)) (there_from (f + 1) u x bs (omega arith))
there_from f zero x (false ∷ bs) e = below_absent (f + 1) x (uids_from (f + 1) bs) (rises (f + 1) bs) (omega arith)
there_from f (suc u) x (false ∷ bs) e = there_from (f + 1) u x bs (omega arith)

pub is_there : (bs : List Bool) (u : ℕ) → has (uids_from 0 bs) u ≡ get_or bs u false
is_there bs u = there_from 0 u u bs (omega arith)

-- what is there stands in the table
pub there_within : (bs : List Bool) (u : ℕ) → has (uids_from 0 bs) u ≡ true → u < length bs
there_within bs u is = grind (arith, nat_tests, common_steps, is_there)

pub past_absent : (bs : List Bool) (u : ℕ) → length bs ≤ u → has (uids_from 0 bs) u ≡ false
past_absent bs u le = false_from_ne_true (has (uids_from 0 bs) u) (λ is. (omega (arith, there_within bs u is)))

-- no uid is there after those that the table holds
none_past : (bs : List Bool) (f n : ℕ) → uids_from f (bs ++ replicate n false) ≡ uids_from f bs
unfolding uids_from
none_past [] f zero = refl
none_past [] f (suc n) = none_past [] (f + 1) n
none_past (true ∷ bs) f n = rw (none_past bs (f + 1) n) refl
none_past (false ∷ bs) f n = none_past bs (f + 1) n

first_beside : (f x : ℕ) (ks : List ℕ) → Rises f ks → x < f → x ∷ ks ≡ with_beside ks ks x x
first_beside f x [] r lt = refl
first_beside f x (k ∷ ks) r lt = (let le : f ≤ k = r.0 in rw (lt-ltb x k (omega arith)) refl)

-- one more, and one less
entered_from : (f u x : ℕ) (bs : List Bool) → x ≡ f + u → u < length bs → get_or bs u false ≡ false
    → uids_from f (set bs u true) ≡ with_beside (uids_from f bs) (uids_from f bs) x x
unfolding uids_from
entered_from f u x [] e lt off = absurd (omega arith)
entered_from f zero x (true ∷ bs) e lt off = cc
entered_from f (suc u) x (true ∷ bs) e lt off =
    rw (le-ltb x f (omega arith), entered_from (f + 1) u x bs (omega arith) (omega arith) off) refl
entered_from f zero x (false ∷ bs) e lt off = grind (arith, nat_tests, common_steps, first_beside, rises)
entered_from f (suc u) x (false ∷ bs) e lt off = entered_from (f + 1) u x bs (omega arith) (omega arith) off

left_from : (f u x : ℕ) (bs : List Bool) → x ≡ f + u → get_or bs u false ≡ true
    → uids_from f (set bs u false) ≡ without_beside (uids_from f bs) (uids_from f bs) x
unfolding uids_from
left_from f u x [] e on = cc
left_from f zero x (true ∷ bs) e on = rw (eq-eqb f x (omega arith)) refl
left_from f (suc u) x (true ∷ bs) e on =
    rw (ne_eqb f x (λ q. omega arith), left_from (f + 1) u x bs (omega arith) on) refl
left_from f zero x (false ∷ bs) e on = cc
left_from f (suc u) x (false ∷ bs) e on = left_from (f + 1) u x bs (omega arith) on

pub uid_entered : (bs : List Bool) (u : ℕ) → u < length bs → has (uids_from 0 bs) u ≡ false
    → uids_from 0 (set bs u true) ≡ with_beside (uids_from 0 bs) (uids_from 0 bs) u u
uid_entered bs u lt off = entered_from 0 u u bs (omega arith) lt (sym (is_there bs u) ∙ off)

pub uid_left : (bs : List Bool) (u : ℕ) → has (uids_from 0 bs) u ≡ true
    → uids_from 0 (set bs u false) ≡ without_beside (uids_from 0 bs) (uids_from 0 bs) u
uid_left bs u on = left_from 0 u u bs (omega arith) (sym (is_there bs u) ∙ on)

-- ---- what stands beside them

pub look_beside : (table ks : List ℕ) (u : ℕ) → has ks u ≡ true → look ks (beside table ks) u ≡ get_or table u 0
look_beside table [] u is = cc
look_beside table (k ∷ ks) u is = elim (cases_eq k u) [
  | inl same ↦ rw (eq-eqb k u same, same) refl
  | inr other ↦ (let far : eqb k u ≡ false = ne_eqb k u other in rw far (look_beside table ks u (rw far at is)))
]

kept_beside : (table ks : List ℕ) (f u v : ℕ) → Rises f ks → u < f → beside (set table u v) ks ≡ beside table ks
kept_beside table [] f u v r lt = refl
kept_beside table (k ∷ ks) f u v r lt =
    grind (arith, nat_tests, common_steps, get_or-set_other, kept_beside table ks (k + 1) u v r.1 (omega arith))

set_from : (table ks : List ℕ) (f u v : ℕ) → Rises f ks → has ks u ≡ true → u < length table
    → beside (set table u v) ks ≡ with_value ks (beside table ks) u v
set_from table [] f u v r is lt = cc
set_from table (k ∷ ks) f u v r is lt = elim (cases_eq k u) [
  | inl same ↦ rw (
    eq-eqb k u same,
    same,
    get_or-set_same table u v 0 lt,
    kept_beside table ks (k + 1) u v r.1 (omega arith),
  ) refl
  | inr other ↦
      (let far : eqb k u ≡ false = ne_eqb k u other in
      rw (far, get_or-set_other table u k v 0 other, set_from table ks (k + 1) u v r.1 (rw far at is) lt) refl)
]

entered_beside : (table ks : List ℕ) (f u : ℕ) → Rises f ks → has ks u ≡ false → u < length table
    → beside (set table u 0) (with_beside ks ks u u) ≡ with_beside ks (beside table ks) u 0
entered_beside table [] f u r off lt = rw (get_or-set_same table u 0 0 lt) refl
entered_beside table (k ∷ ks) f u r off lt = elim (cases_lt u k) [
  | inl less ↦ rw (
    lt-ltb u k less,
    get_or-set_same table u 0 0 lt,
    get_or-set_other table u k 0 0 (λ q. omega arith),
    kept_beside table ks (k + 1) u 0 r.1 (omega arith),
  ) refl
  | inr more ↦ elim (cases_eq k u) [
    | inl same ↦ (let clash : true ≡ false = rw (eq-eqb k u same) at off in cc)
    | inr other ↦
        rw (
          le-ltb u k more,
          get_or-set_other table u k 0 0 other,
          entered_beside table ks (k + 1) u r.1 (rw (ne_eqb k u other) at off) lt,
        ) refl
  ]
]

pub left_beside : (table ks : List ℕ) (u : ℕ)
    → beside table (without_beside ks ks u) ≡ without_beside ks (beside table ks) u
left_beside table [] u = refl
left_beside table (k ∷ ks) u = grind (arith, nat_tests, common_steps, left_beside table ks u)

-- a list that rises does so from 0
from_order : (f : ℕ) (ks : List ℕ) → ((j : ℕ) → j < length ks → f ≤ get_or ks j 0) → IsRising ks → Rises f ks
from_order f [] low up = tt
from_order f (k ∷ ks) low up = (
  low 0 (omega arith),
  from_order (k + 1) ks (λ j lt. (let less : k < get_or ks j 0 = up 0 (suc j) (omega arith) (omega arith) in
      omega arith)) (λ i j lt within. up (suc i) (suc j) (omega arith) (omega arith)),
)

module _ (table ks : List ℕ) (up : IsRising ks) where
  pub set_in_order : (u v : ℕ) → has ks u ≡ true → u < length table
      → beside (set table u v) ks ≡ with_value ks (beside table ks) u v
  set_in_order u v is lt = set_from table ks 0 u v (from_order 0 ks (λ j lt. omega arith) up) is lt

  pub entered_in_order : (u : ℕ) → has ks u ≡ false → u < length table
      → beside (set table u 0) (with_beside ks ks u u) ≡ with_beside ks (beside table ks) u 0
  entered_in_order u off lt = entered_beside table ks 0 u (from_order 0 ks (λ j lt. omega arith) up) off lt

-- ---- as the calls leave them

abbrev both : List ℕ → List ℕ → NumberMap
both uids values = record { uids = uids; values = values }

pub blank : (bs : List Bool) (values : List ℕ) → bs ≡ [] → numbers_of bs values ≡ no_numbers
unfolding uids_from
blank bs values is = cc

module _ (bs : List Bool) (values : List ℕ) (now : NumberMap) (view : numbers_of bs values ≡ now) where
  abbrev us : List ℕ
  us = uids_from 0 bs

  pub there_now : (u : ℕ) → has now.uids u ≡ true → has us u ≡ true
  there_now u is = rw (← view) at is

  absent_now : (u : ℕ) → has now.uids u ≡ false → has us u ≡ false
  absent_now u off = rw (← view) at off

  pub now_rises : IsRising now.uids
  now_rises = rw (← view) (uids_rise bs)

  pub number_read : (u x : ℕ) → x ≡ get_or values u 0 → has now.uids u ≡ true → x ≡ look now.uids now.values u
  number_read u x read is = rw (read, ← view) (sym (look_beside values us u (there_now u is)))

  pub number_set : (p u v : ℕ) → p ≡ u → has now.uids u ≡ true → u < length values
      → numbers_of bs (set values p v) ≡ record now { values = with_value now.uids now.values u v }
  number_set p u v same is lt = rw (same, ← view) (cc (set_in_order values us (uids_rise bs) u v (there_now u is) lt))

  pub number_entered : (u : ℕ) → has now.uids u ≡ false → u < length bs → u < length values
      → numbers_of (set bs u true) (set values u 0) ≡ with_uid now u
  number_entered u off lt in_values = rw (uid_entered bs u lt (absent_now u off), ← view)
      (cc (entered_in_order values us (uids_rise bs) u (absent_now u off) in_values))

  -- of a uid after those that the table holds
  pub number_reached : (front : List Bool) (u : ℕ) → has now.uids u ≡ false → length bs ≤ u
      → front ≡ bs ++ replicate (u - length bs) false → u < length values
      → numbers_of (front ++ true ∷ []) (set values u 0) ≡ with_uid now u
  number_reached front u off past is in_values =
      rw (grown, uid_entered wide u in_wide (rw same (absent_now u off)), same, ← view)
      (cc (entered_in_order values us (uids_rise bs) u (absent_now u off) in_values))
    where
      wide : List Bool
      wide = front ++ false ∷ []

      long : length front ≡ u
      long = grind (arith, nat_tests, common_steps, length-append, length-replicate)

      in_wide : u < length wide
      in_wide = omega (arith, length-append front (false ∷ []), long)

      same : uids_from 0 wide ≡ us
      same = cc (blanks_next bs front u false is past, none_past bs 0 (u + 1 - length bs))

      grown : front ++ true ∷ [] ≡ set wide u true
      grown = sym (set_end front u false true (sym long))

  pub number_left : (p u : ℕ) → p ≡ u → has now.uids u ≡ true → numbers_of (set bs p false) values ≡ without_uid now u
  number_left p u same is = rw (same, uid_left bs u (there_now u is), ← view) (cc (left_beside values us u))
