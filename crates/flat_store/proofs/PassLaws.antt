-- How many stored pages pass a test.
use Rattle.flat_store.proofs.Prelude.{sum_by-cons, ◌≡◌, ◌<◌, ◌≤◌, ℕ, ◌+◌, ◌-◌, suc, Bool, true, false, not, cond, eqb, leb, ltb, ◌&&◌, ◌||◌, List, [], ◌∷◌, refl, sym, ◌∙◌, arith, inl, inr, count_by, IsStrictlySortedBy, AllByRecursion, Less, cases_Bool, nat_tests, sorted_head, sorted_tail, is_page, is_stored, without_stored, without_first, without_none, IsOnce, is_stored-without, once_without, count_without, by_both}
use Rattle.laws.proofs.Bools.{and_first}
use Rattle.laws.proofs.Numbers.{eqb_self}

pub count-cons : {X : Type 0} (t : X → Bool) (x : X) (xs : List X)
    → count_by t (x ∷ xs) ≡ cond {A = ℕ} (t x) 1 0 + count_by t xs
count-cons t = sum_by-cons (λ y. cond (t y) 1 0)

-- ---- two lists of the same pages

pub same_count : (t : ℕ × ℕ → Bool) (xs ys : List (ℕ × ℕ)) → IsOnce xs → IsOnce ys
    → ((u q : ℕ) → is_stored xs u q ≡ is_stored ys u q) → count_by t xs ≡ count_by t ys
same_count t [] [] once_xs once_ys same = refl
same_count t [] (y ∷ ys) once_xs once_ys same =
    let none = same y.0 y.1 in let own = eqb_self y.0 in let page = eqb_self y.1 in grind (arith, nat_tests)
same_count t (x ∷ xs) ys once_xs once_ys same =
    let there : is_stored ys x.0 x.1 ≡ true = sym (same x.0 x.1) ∙ rw (eqb_self x.0, eqb_self x.1) refl in
    let rest = same_count t xs (without_stored ys x.0 (λ r. eqb r x.1)) once_xs.1
    (once_without ys x.0 (λ r. eqb r x.1) once_ys)
    (λ u q. rw is_stored-without (left u q (is_stored xs u q) (is_stored ys u q) refl (same u q))) in
    let less = count_without t ys x.0 x.1 once_ys there in
    let more = count-cons t x xs in
    omega (arith, rest, less, more)
  where
    left : (u q : ℕ) (a b : Bool) → is_stored xs u q ≡ a → (is_page u q x || a) ≡ b
        → a ≡ (not (eqb u x.0 && eqb q x.1) && b)
    left u q a b is = grind (arith, nat_tests)

-- ---- those of a segment that pass a test

-- those that pass are gone, and no others
pub count_less : (c : ℕ → Bool) (xs : List (ℕ × ℕ)) (u : ℕ) (t : ℕ → Bool)
    → count_by (λ x. c x.0) (without_stored xs u t) + cond {A = ℕ} (c u) (count_by (λ x. eqb x.0 u && t x.1) xs) 0
    ≡ count_by (λ x. c x.0) xs
count_less c [] u t = rw without_none (grind arith)
count_less c (x ∷ xs) u t =
    let ih = count_less c xs u t in
    rw (count-cons (λ y. c y.0) x xs, count-cons (λ y. eqb y.0 u && t y.1) x xs)
    (elim (cases_Bool (eqb x.0 u && t x.1)) [
      | inl goes ↦
          (let own : x.0 ≡ u = (let first = and_first (eqb x.0 u) (t x.1) goes in grind (arith, nat_tests)) in
          rw (without_first x xs u t true goes, goes, own) (grind arith))
      | inr stays ↦
          rw (without_first x xs u t false stays, stays, count-cons (λ y. c y.0) x (without_stored xs u t))
          (grind arith)
    ])

-- where some pass, one is there
pub one_there : (xs : List (ℕ × ℕ)) (u : ℕ) (t : ℕ → Bool) → 0 < count_by (λ x. eqb x.0 u && t x.1) xs
    → (q : ℕ) × (is_stored xs u q ≡ true)
one_there [] u t some = absurd (omega (arith, some))
one_there (x ∷ xs) u t some = elim (cases_Bool (eqb x.0 u)) [
  | inl is ↦ (x.1, rw (is, eqb_self x.1) refl)
  | inr other ↦ later other (one_there xs u t (let all = count-cons (λ y. eqb y.0 u && t y.1) x xs in
      let none : cond {A = ℕ} (eqb x.0 u && t x.1) 1 0 ≡ 0 = rw other refl in
      omega (arith, some)))
]
  where
    later : eqb x.0 u ≡ false → (q : ℕ) × (is_stored xs u q ≡ true) → (q : ℕ) × (is_stored (x ∷ xs) u q ≡ true)
    later other (q, on) = (q, rw other on)

-- ---- no more than there are numbers

abbrev passes : ℕ → ℕ → ℕ → ℕ × ℕ → Bool
passes u from end x = eqb x.0 u && (leb from x.1 && ltb x.1 end)

-- keys in order, where those of a segment are of pages from one on
few_from : (u from end low : ℕ) (ks : List (ℕ × ℕ)) → IsStrictlySortedBy by_both ks
    → AllByRecursion (λ k. k.0 ≡ u → low ≤ k.1) ks → count_by (passes u from end) ks ≤ end - low
few_from u from end low [] sorted above = omega arith
few_from u from end low (k ∷ ks) sorted above =
    let all = count-cons (passes u from end) k ks in
    elim (cases_Bool (passes u from end k)) [
      | inl goes ↦
          (let first = and_first (eqb k.0 u) (leb from k.1 && ltb k.1 end) goes in
          let own : k.0 ≡ u = grind (arith, nat_tests) in
          let ih = few_from u from end (suc k.1) ks (sorted_tail by_both k ks sorted)
          (later ks (sorted_head by_both k ks sorted) own) in
          let least = above.0 own in
          grind (arith, nat_tests))
      | inr stays ↦
          (let ih = few_from u from end low ks (sorted_tail by_both k ks sorted) above.1 in grind (arith, nat_tests))
    ]
  where
    later : (ys : List (ℕ × ℕ)) → AllByRecursion (λ y. by_both k y ≡ Less) ys → k.0 ≡ u
        → AllByRecursion (λ y. y.0 ≡ u → suc k.1 ≤ y.1) ys
    later [] h own = tt
    later (y ∷ ys) h own = (λ is. past y h.0 (own ∙ sym is), later ys h.1 own)
      where
        past : (y : ℕ × ℕ) → by_both k y ≡ Less → k.0 ≡ y.0 → k.1 < y.1
        past y less same = grind (arith, nat_tests)

pub few : (u from end : ℕ) (ks : List (ℕ × ℕ)) → IsStrictlySortedBy by_both ks → count_by (passes u from end) ks ≤ end
few u from end ks sorted = let most = few_from u from end 0 ks sorted (each ks) in omega arith
  where
    each : (ys : List (ℕ × ℕ)) → AllByRecursion (λ y. y.0 ≡ u → 0 ≤ y.1) ys
    each [] = tt
    each (y ∷ ys) = (λ is. omega arith, each ys)
