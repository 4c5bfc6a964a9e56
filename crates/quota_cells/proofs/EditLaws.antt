-- One more value beside a uid, 0, and one less.
use Rattle.quota_cells.proofs.Prelude.{common_steps, nat_tests, ◌≡◌, ◌≢◌, ℕ, suc, zero, ◌+◌, ◌<◌, ◌≤◌, Bool, true, false, eqb, not, ◌&&◌, ◌||◌, List, [], ◌∷◌, length, refl, sym, arith, get_or, inl, inr, insert, remove, cases_Bool, cases_eq, cases_lt, eq-eqb, ne_eqb, length-insert, get_or-insert_below, get_or-insert_at, get_or-insert_above, length-remove, get_or-remove_below, get_or-remove_above, look, has, weigh, IsRising, IsGap, look_absent, Where, Before, Here, After, where_is, first_once, rest_rises}

pub has_insert : (ks : List ℕ) (i u v : ℕ) → has (insert ks i u) v ≡ (eqb u v || has ks v)
has_insert ks zero u v = refl
has_insert [] (suc i) u v = refl
has_insert (k ∷ ks) (suc i) u v = grind (arith, nat_tests, common_steps, has_insert ks i u v)

pub look_insert : (ks vs : List ℕ) (i u v : ℕ) → length vs ≡ length ks → has ks u ≡ false
    → look (insert ks i u) (insert vs i 0) v ≡ look ks vs v
look_insert ks vs zero u v len off = elim (cases_eq u v) [
  | inl same ↦ rw (eq-eqb u v same) (sym (look_absent ks vs v (rw same at off)))
  | inr other ↦ rw (ne_eqb u v other) refl
]
look_insert [] [] (suc i) u v len off = elim (cases_Bool (eqb u v)) [ inl t ↦ rw t refl | inr f ↦ rw f refl ]
look_insert [] (w ∷ vs) (suc i) u v len off = absurd (omega arith)
look_insert (k ∷ ks) [] (suc i) u v len off = absurd (omega arith)
look_insert (k ∷ ks) (w ∷ vs) (suc i) u v len off = elim (cases_Bool (eqb k u)) [
  | inl at ↦ (let z : true ≡ false = rw at at off in cc)
  | inr far ↦ elim (cases_Bool (eqb k v)) [
    | inl t ↦ rw t refl
    | inr f ↦ rw f (look_insert ks vs i u v (omega arith) (rw far at off))
  ]
]

pub weigh_insert : (t : ℕ → Bool) (ks ws : List ℕ) (i u : ℕ) → length ws ≡ length ks
    → weigh t (insert ks i u) (insert ws i 0) ≡ weigh t ks ws
weigh_insert t ks ws zero u len = elim (cases_Bool (t u))
    [ inl is ↦ rw is (omega arith) | inr isnt ↦ rw isnt (omega arith) ]
weigh_insert t [] [] (suc i) u len = elim (cases_Bool (t u)) [ inl is ↦ rw is refl | inr isnt ↦ rw isnt refl ]
weigh_insert t [] (w ∷ ws) (suc i) u len = absurd (omega arith)
weigh_insert t (k ∷ ks) [] (suc i) u len = absurd (omega arith)
weigh_insert t (k ∷ ks) (w ∷ ws) (suc i) u len = cc (weigh_insert t ks ws i u (omega arith))

pub has_remove : (ks : List ℕ) (i v : ℕ) → IsRising ks → i < length ks → has (remove ks i) v
    ≡ (has ks v && not (eqb (get_or ks i 0) v))
has_remove [] i v up lt = absurd (omega arith)
has_remove (k ∷ ks) zero v up lt = elim (cases_eq k v) [
  | inl same ↦ rw (eq-eqb k v same) (rw same at (first_once k ks up))
  | inr other ↦ rw (ne_eqb k v other) (elim (cases_Bool (has ks v)) [ inl t ↦ rw t refl | inr f ↦ rw f refl ])
]
has_remove (k ∷ ks) (suc i) v up lt =
    let ih = has_remove ks i v (rest_rises k ks up) (omega arith) in
    elim (cases_eq k v) [
      | inl
          same ↦ rw (eq-eqb k v same, ne_eqb (get_or ks i 0) v (λ q. omega (arith, up 0 (suc i) (omega arith) lt))) refl
      | inr other ↦ rw (ne_eqb k v other) ih
    ]

pub look_remove : (ks vs : List ℕ) (i v : ℕ) → length vs ≡ length ks → IsRising ks → i < length ks → v ≢ get_or ks i 0
    → look (remove ks i) (remove vs i) v ≡ look ks vs v
look_remove [] vs i v len up lt ne = absurd (omega arith)
look_remove (k ∷ ks) [] i v len up lt ne = absurd (omega arith)
look_remove (k ∷ ks) (w ∷ vs) zero v len up lt ne = rw (ne_eqb k v (λ q. ne (sym q))) refl
look_remove (k ∷ ks) (w ∷ vs) (suc i) v len up lt ne =
    grind (arith, nat_tests, common_steps, look_remove ks vs i v (omega arith) (rest_rises k ks up) (omega arith) ne)

pub weigh_remove : (t : ℕ → Bool) (ks ws : List ℕ) (i : ℕ) → length ws ≡ length ks → i < length ks → get_or ws i 0 ≡ 0
    → weigh t (remove ks i) (remove ws i) ≡ weigh t ks ws
weigh_remove t [] ws i len lt none = absurd (omega arith)
weigh_remove t (k ∷ ks) [] i len lt none = absurd (omega arith)
weigh_remove t (k ∷ ks) (w ∷ ws) zero len lt none = rw none
    (elim (cases_Bool (t k)) [ inl is ↦ rw is (omega arith) | inr isnt ↦ rw isnt (omega arith) ])
weigh_remove t (k ∷ ks) (w ∷ ws) (suc i) len lt none = cc (weigh_remove t ks ws i (omega arith) (omega arith) none)

-- ---- rising

module _ (ks : List ℕ) (u i : ℕ) (up : IsRising ks) (gap : IsGap ks u i) where
  at_before : (k : ℕ) → k < i → get_or (insert ks i u) k 0 ≡ get_or ks k 0
  at_before k lt = get_or-insert_below ks i u 0 k lt gap.within

  at_here : (k : ℕ) → k ≡ i → get_or (insert ks i u) k 0 ≡ u
  at_here k e = rw e (get_or-insert_at ks i u 0 gap.within)

  at_after : (k j : ℕ) → k ≡ j + 1 → i ≤ j → get_or (insert ks i u) k 0 ≡ get_or ks j 0
  at_after k j e le = rw e (get_or-insert_above ks i u 0 j le gap.within)

  rises : (a b : ℕ) → a < b → b < length (insert ks i u) → Where a i → Where b i
      → get_or (insert ks i u) a 0 < get_or (insert ks i u) b 0
  rises a b lt w (Before x) (Before y) = rw (at_before a x, at_before b y) (up a b lt (omega (arith, gap.within)))
  rises a b lt w (Before x) (Here y) = rw (at_before a x, at_here b y) (gap.below a x)
  rises a b lt w (Before x) (After j e g) = rw (at_before a x, at_after b j e g)
      (let n = length-insert ks i u gap.within in up a j (omega arith) (omega arith))
  rises a b lt w (Here x) (Before y) = absurd (omega arith)
  rises a b lt w (Here x) (Here y) = absurd (omega arith)
  rises a b lt w (Here x) (After j e g) = rw (at_here a x, at_after b j e g)
      (let n = length-insert ks i u gap.within in gap.above j g (omega arith))
  rises a b lt w (After h d f) (Before y) = absurd (omega arith)
  rises a b lt w (After h d f) (Here y) = absurd (omega arith)
  rises a b lt w (After h d f) (After j e g) = rw (at_after a h d f, at_after b j e g) (let n =
      length-insert ks i u gap.within in up h j (omega arith) (omega arith))

  pub rising_insert : IsRising (insert ks i u)
  rising_insert a b lt w = rises a b lt w (where_is a i) (where_is b i)

pub rising_remove : (ks : List ℕ) (i : ℕ) → IsRising ks → i < length ks → IsRising (remove ks i)
rising_remove ks i up lt a b less within =
    let n = length-remove ks i lt in
    elim (cases_lt a i) [
      | inl x ↦ elim (cases_lt b i) [
        | inl y ↦ rw (get_or-remove_below ks i 0 a x lt, get_or-remove_below ks i 0 b y lt) (up a b less (omega arith))
        | inr y ↦ rw (get_or-remove_below ks i 0 a x lt, get_or-remove_above ks i 0 b y lt)
            (up a (b + 1) (omega arith) (omega arith))
      ]
      | inr x ↦ rw (get_or-remove_above ks i 0 a x lt, get_or-remove_above ks i 0 b (omega arith) lt)
          (up (a + 1) (b + 1) (omega arith) (omega arith))
    ]
