-- Laws of lists.
use Rattle.laws.proofs.Prelude.{Bool, IsSome, List, None, Option, Some, [], add-one, ap, arith, cond, drop, drop-cons, false, filter, get_or, inl, inr, length, map, not, position, refl, replicate, set, suc, sum_by, sym, take, true, zero, ℕ, ◌++◌, ◌+◌, ◌-◌, ◌<◌, ◌∙◌, ◌∷◌, ◌≡◌, ◌≤◌, both_ways, cases_Bool, cases_eq, not-true, leb_tells, common_steps, get_or-set_same, get_or_past, set_comm, set_past, position-Some, prefix_len_passes, sum-map, find, position_or_len}

pub all_same : {X : Type 0} (n i : ℕ) (d : X) → get_or (replicate n d) i d ≡ d
all_same zero i d = refl
all_same (suc n) zero d = refl
all_same (suc n) (suc i) d = all_same n i d

pub none_left : (xs : List ℕ) (n : ℕ) → length xs ≤ n → drop n xs ≡ []
none_left xs n le = grind (arith, common_steps)

pub take_drop : (bs : List ℕ) (i : ℕ) → take i bs ++ drop i bs ≡ bs
take_drop bs i = grind (arith, common_steps)

pub zeros_read : (n i : ℕ) → get_or {A = ℕ} (replicate n 0) i 0 ≡ 0
zeros_read zero i = refl
zeros_read (suc n) zero = refl
zeros_read (suc n) (suc i) = zeros_read n i

pub within_from : {X : Type 0} (xs : List X) (i : ℕ) (d : X) → (get_or xs i d ≡ d → ⊥) → i < length xs
within_from xs i d other = elim (leb_tells (length xs) i) [
  | inl h ↦ absurd (other (get_or_past xs i d h.1))
  | inr h ↦ h.1
]

pub given_twice : (flags : List Bool) (r s : ℕ) → set (set flags r false) s false ≡ set (set flags s false) r false
given_twice flags r s = elim (cases_eq r s) [
  | inl same ↦ rw same refl
  | inr n ↦ set_comm flags r s false false n
]

pub length_left : (xs : List ℕ) (i : ℕ) → i ≤ length xs → length xs - length (drop i xs) ≡ i
length_left xs i le = grind (arith, common_steps)

pub rest_last : (bs : List ℕ) → [] ≡ drop (length bs - 0) bs
rest_last bs = grind (arith, common_steps)

pub blank : (m i : ℕ) → get_or (replicate {A = Option ℕ} m None) i None ≡ None
blank zero i = refl
blank (suc m) zero = refl
blank (suc m) (suc i) = blank m i

pub none_put : {X : Type 0} (xs : List (Option X)) (p : ℕ) → get_or (set xs p None) p None ≡ None
none_put xs p = elim (leb_tells (length xs) p) [
  | inl past ↦ ap (λ (ys : List (Option _)). get_or ys p None) (set_past xs p None past.1)
      ∙ get_or_past xs p None past.1
  | inr lt ↦ get_or-set_same xs p None None lt.1
]

pub length_push : {A : Type 0} (xs : List A) (x : A) → length (xs ++ x ∷ []) ≡ length xs + 1
length_push xs x = grind (arith, common_steps)

pub one_left : {X : Type 0} (xs : List X) (i : ℕ) (d : X) → i < length xs → drop i xs ≡ get_or xs i d ∷ drop (i + 1) xs
one_left xs i d lt = rw (add-one, drop-cons xs i d) refl

pub get_or_any : {X : Type 0} (xs : List X) (i : ℕ) (d e : X) → i < length xs → get_or xs i d ≡ get_or xs i e
get_or_any [] i d e lt = absurd (omega arith)
get_or_any (x ∷ xs) zero d e lt = refl
get_or_any (x ∷ xs) (suc i) d e lt = get_or_any xs i d e (omega arith)

pub position_nowhere : {X : Type 0} (p : X → Bool) (xs : List X) (d : X) → ((k : ℕ) → p (get_or xs k d) ≡ false)
    → position p xs ≡ None
position_nowhere {X} p xs d never = at (position p xs) refl
  where
    at : (o : Option ℕ) → position p xs ≡ o → o ≡ None
    at None is = refl
    at (Some r) is =
        let h : (r < length xs) × (p (get_or xs r d) ≡ true) × ((k : ℕ) → k < r → p (get_or xs k d) ≡ false) =
        position-Some p xs r d is in
        absurd (both_ways _ (never r) h.1)

pub find_passes : {X : Type 0} (p : X → Bool) (xs : List X) (x : X) → find p xs ≡ Some x → p x ≡ true
find_passes p [] x e = cc
find_passes p (y ∷ xs) x e = elim (cases_Bool (p y)) [
  | inl is ↦ (let z : Some y ≡ Some x = rw is at e in let same : y ≡ x = cc in rw (← same) is)
  | inr isnt ↦ find_passes p xs x (rw isnt at e)
]

pub position_there : {X : Type 0} (p : X → Bool) (xs : List X) (k : ℕ) (d : X) → k < length xs → p (get_or xs k d)
    ≡ true → IsSome (position p xs)
position_there p xs k d within holds = grind (arith, prefix_len_passes (λ x. not (p x)) xs k d)

pub few_kept : {A : Type 0} (p : A → Bool) (xs : List A) → length (filter p xs) ≤ length xs
few_kept p [] = omega arith
few_kept p (x ∷ xs) = by (few_kept p xs) (p x)
  where
    by : length (filter p xs) ≤ length xs → (b : Bool)
        → length (cond b (x ∷ filter p xs) (filter p xs)) ≤ suc (length xs)
    by ih true = omega (arith, ih)
    by ih false = omega (arith, ih)

pub position_none : {X : Type 0} (p : X → Bool) (xs : List X) → position p xs ≡ None → (k : ℕ) (d : X) → k < length xs
    → p (get_or xs k d) ≡ false
position_none p xs e k d within =
    let past : length xs ≤ position_or_len p xs = grind arith in
    not-true _ (prefix_len_passes (λ x. not (p x)) xs k d (omega arith))

pub sum_of_map : {D : Type 0} (f : D → ℕ) (old new : List D) → map f new ≡ map f old → sum_by f new ≡ sum_by f old
sum_of_map f old new same = sym (sum-map f new) ∙ ap (sum_by (λ (n : ℕ). n)) same ∙ sum-map f old
