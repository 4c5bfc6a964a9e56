-- How often a list has an element that passes a test.
pub use Rattle.seg_control.proofs.Prelude.{AreExact, AreLinked, Bool, Entry, Fault, IsDistinct-from_apart, Links, List, Option, Sdw, Some, [], and_from, and_parts, ap, arith, cases_eq, cond, count_by, eq-eqb, eqb, eqb-true, false, get_or, get_or-map, get_or-set_other, get_or-set_same, get_or_any, inl, inr, kst_at, leads, leads_at, leads_to, length, length-le_from_distinct_below, length-map, length-set, list_any, map, ne_eqb, refl, remove, same_Some, sdw_at, sdws_at, set, shown_within, suc, sum_by-cons, sum_by-remove, sum_by_push, sym, times, times_few, times_one, trailers_of, true, uid_of, zero, ℕ, ◌++◌, ◌+◌, ◌<◌, ◌||◌, ◌∙◌, ◌∷◌, ◌≡◌, ◌≢◌, ◌≤◌, ◌⊎◌}

abbrev pub weight : Bool → ℕ
weight b = cond b 1 0

pub count_cons : {X : Type 0} (p : X → Bool) (x : X) (xs : List X) → count_by p (x ∷ xs) ≡ weight (p x) + count_by p xs
count_cons p x xs = sum_by-cons (λ y. cond (p y) 1 0) x xs

pub count_push : {X : Type 0} (p : X → Bool) (xs : List X) (x : X) → count_by p (xs ++ x ∷ [])
    ≡ count_by p xs + weight (p x)
count_push p xs x = sum_by_push (λ y. cond (p y) 1 0) xs x

pub count_remove : {X : Type 0} (p : X → Bool) (xs : List X) (i : ℕ) (d : X) → i < length xs
    → count_by p (remove xs i) + weight (p (get_or xs i d)) ≡ count_by p xs
count_remove p xs i d lt = sum_by-remove (λ y. cond (p y) 1 0) xs i d lt

pub count_one : {X : Type 0} (p : X → Bool) (xs : List X) (i : ℕ) (d : X) → i < length xs → p (get_or xs i d) ≡ true
    → 1 ≤ count_by p xs
count_one p [] i d lt e = omega arith
count_one p (x ∷ xs) zero d lt e = rw (count_cons p x xs, e) (omega arith)
count_one p (x ∷ xs) (suc i) d lt e = rw (count_cons p x xs) (omega (arith, count_one p xs i d (omega arith) e))

pub count_two : {X : Type 0} (p : X → Bool) (xs : List X) (i j : ℕ) (d : X) → i < j → j < length xs → p (get_or xs i d)
    ≡ true → p (get_or xs j d) ≡ true → 2 ≤ count_by p xs
count_two p [] i j d less lt e f = omega arith
count_two p (x ∷ xs) i zero d less lt e f = omega arith
count_two p (x ∷ xs) zero (suc j) d less lt e f =
    rw (count_cons p x xs, e) (omega (arith, count_one p xs j d (omega arith) f))
count_two p (x ∷ xs) (suc i) (suc j) d less lt e f =
    rw (count_cons p x xs) (omega (arith, count_two p xs i j d (omega arith) (omega arith) e f))

-- an element that passes
pub count_some : {X : Type 0} (p : X → Bool) (xs : List X) (d : X) → 1 ≤ count_by p xs → (i : ℕ) × (i < length xs)
    × (p (get_or xs i d) ≡ true)
count_some p [] d le = absurd (omega arith)
count_some {X} p (x ∷ xs) d le = by_head (p x) refl (λ more. count_some p xs d more)
  where
    by_head : (b : Bool) → p x ≡ b → (1 ≤ count_by p xs → (i : ℕ) × (i < length xs) × (p (get_or xs i d) ≡ true))
        → (i : ℕ) × (i < length (x ∷ xs)) × (p (get_or (x ∷ xs) i d) ≡ true)
    by_head true e rest = (0, omega arith, e)
    by_head false e rest =
        let is = count_cons p x xs in
        let none : weight (p x) ≡ 0 = ap weight e in
        let found = rest (omega arith) in
        let lt = found.1 in (suc found.0, omega arith, found.2)

-- a process that is among those of some pairs
pub any_at : (q : ℕ) (xs : List (ℕ × ℕ)) (d : ℕ × ℕ) → list_any (eqb q) (map (λ x. x.0) xs) ≡ true → (i : ℕ)
    × (i < length xs) × (q ≡ (get_or xs i d).0)
any_at q [] d e = cc
any_at q (x ∷ xs) d e = by_head (eqb q x.0) refl (λ any. any_at q xs d any)
  where
    by_head : (b : Bool) → eqb q x.0 ≡ b → (list_any (eqb q) (map (λ y. y.0) xs) ≡ true → (i : ℕ) × (i < length xs)
        × (q ≡ (get_or xs i d).0)) → (i : ℕ) × (i < length (x ∷ xs)) × (q ≡ (get_or (x ∷ xs) i d).0)
    by_head true h rest = (0, omega arith, eqb-true q x.0 h)
    by_head false h rest =
        let found = rest (cc) in
        let lt = found.1 in (suc found.0, omega arith, found.2)
