-- A pool with more places than a chain has links has a segment off the chain, once each of its places is used.
use Rattle.machine_model.proofs.Prelude.{◌≡◌, ◌<◌, ℕ, zero, suc, ◌+◌, Bool, true, false, ◌||◌, eqb, List, [], ◌∷◌, length, Option, Some, None, is_some, refl, sym, subst, ◌∙◌, ◌⊎◌, inl, inr, add-zero, arith, list_any, AllByRecursion, IsDistinct, nat_eq_equiv, eqb_tells, length-le_from_is_member, ActiveSegs, IsOneToOne, entry_at, uid_at, uid_in, first_of, size_of, HasOneOffChain, off_chain, or_zero, Active as Entry, or_true, by_not}

-- ---- a search

-- one of the first n numbers passes, or none does
pub found_or : (test : ℕ → Bool) (n : ℕ) → ((i : ℕ) × (i < n) × (test i ≡ true)) ⊎ ((i : ℕ) → i < n → test i ≡ false)
found_or test zero = inr (λ i lt. absurd (omega arith))
found_or test (suc n) = by (found_or test n) (test n) refl
  where
    by : ((i : ℕ) × (i < n) × (test i ≡ true)) ⊎ ((i : ℕ) → i < n → test i ≡ false) → (b : Bool) → test n ≡ b
        → ((i : ℕ) × (i < suc n) × (test i ≡ true)) ⊎ ((i : ℕ) → i < suc n → test i ≡ false)
    by (inl x) b h = inl (x.0, omega arith, x.2)
    by (inr none) true h = inl (n, omega arith, h)
    by (inr none) false h = inr (λ i lt. elim (eqb_tells i n) [ inl e ↦ rw e.1 h | inr other ↦ none i (omega arith) ])

-- ---- the uids of some places

abbrev uid_in_place : List (Option Entry) → ℕ → ℕ
uid_in_place entries place = or_zero (uid_at entries place)

uids : List (Option Entry) → ℕ → ℕ → List ℕ
uids entries first zero = []
uids entries first (suc n) = uid_in_place entries first ∷ uids entries (first + 1) n

uids_long : (entries : List (Option Entry)) (first n : ℕ) → length (uids entries first n) ≡ n
unfolding uids
uids_long entries first zero = refl
uids_long entries first (suc n) = omega (arith, uids_long entries (first + 1) n)

-- each of the places from one on is used
abbrev AreUsed : List (Option Entry) → ℕ → ℕ → Type 0
AreUsed entries first n = (i : ℕ) → i < n → is_some (entry_at entries (first + i)) ≡ true

used_next : (entries : List (Option Entry)) (first n : ℕ) → AreUsed entries first (suc n)
    → AreUsed entries (first + 1) n
used_next entries first n used i lt =
    subst (λ (p : ℕ). is_some (entry_at entries p) ≡ true) (omega arith) (used (suc i) (omega arith))

uid_there : (o : Option Entry) → is_some o ≡ true → uid_in o ≡ Some (or_zero (uid_in o))
uid_there None h = let no = h in absurd cc
uid_there (Some e) h = refl

apart : (entries : List (Option Entry)) (a b n : ℕ) → IsOneToOne entries → a < b → is_some (entry_at entries a) ≡ true
    → AreUsed entries b n → AllByRecursion (λ y. eqb (uid_in_place entries a) y ≡ false) (uids entries b n)
unfolding uids
apart entries a b zero once lt here used = tt
apart entries a b (suc n) once lt here used = (
  elim (eqb_tells (uid_in_place entries a) (uid_in_place entries b)) [
    | inl e ↦ (
        let same : a ≡ b = once a b (uid_in_place entries b)
        (cc (uid_there (entry_at entries a) here)) (uid_there (entry_at entries b)
        (rw (← (add-zero b)) (used zero (omega arith)))) in
        absurd (omega arith))
    | inr n ↦ n.0
  ],
  apart entries a (b + 1) n once (omega arith) here (used_next entries b n used),
)

distinct : (entries : List (Option Entry)) (first n : ℕ) → IsOneToOne entries → AreUsed entries first n
    → IsDistinct eqb (uids entries first n)
unfolding uids IsDistinct
distinct entries first zero once used = tt
distinct entries first (suc n) once used = (
  apart entries first (first + 1) n once (omega arith)
      (rw (← (add-zero first)) (used zero (omega arith))) (used_next entries first n used),
  distinct entries (first + 1) n once (used_next entries first n used),
)

-- ---- all of them in the chain

eqb_turn : (i j : ℕ) → eqb i j ≡ true → eqb j i ≡ true
eqb_turn i j h = elim (eqb_tells j i) [
  | inl e ↦ e.0
  | inr n ↦ elim (eqb_tells i j) [ inl e ↦ absurd (n.1 (sym e.1)) | inr m ↦ (let no = sym h ∙ m.0 in absurd cc) ]
]

any_turn : (chain : List ℕ) (q : ℕ) → list_any (λ u. eqb u q) chain ≡ true → list_any (eqb q) chain ≡ true
any_turn [] q h = h
any_turn (x ∷ xs) q h = by (eqb x q) refl (any_turn xs q) h
  where
    by : (b : Bool) → eqb x q ≡ b → (list_any (λ u. eqb u q) xs ≡ true → list_any (eqb q) xs ≡ true)
        → (b || list_any (λ u. eqb u q) xs) ≡ true → (eqb q x || list_any (eqb q) xs) ≡ true
    by true e rest i = rw (eqb_turn x q e) refl
    by false e rest i = rw (rest i) (or_true (eqb q x))

in_chain : (chain : List ℕ) (o : Option Entry) → is_some o ≡ true → off_chain chain o ≡ false
    → list_any (eqb (or_zero (uid_in o))) chain ≡ true
in_chain chain None some on = let no = some in absurd cc
in_chain chain (Some e) some on = any_turn chain e.uid (by_not (list_any (λ u. eqb u e.uid) chain) on)

all_in : (entries : List (Option Entry)) (chain : List ℕ) (first n : ℕ) → AreUsed entries first n
    → ((i : ℕ) → i < n → off_chain chain (entry_at entries (first + i)) ≡ false) → (q : ℕ)
    → list_any (eqb q) (uids entries first n) ≡ true → list_any (eqb q) chain ≡ true
unfolding uids
all_in entries chain first zero used on q h = let no = h in absurd cc
all_in entries chain first (suc n) used on q h =
    by (eqb q (uid_in_place entries first)) refl (all_in entries chain (first + 1) n (used_next entries first n used)
    (λ i lt. subst (λ (p : ℕ). off_chain chain (entry_at entries p) ≡ false) (omega arith)
    (on (suc i) (omega arith))) q) h
  where
    here : list_any (eqb (uid_in_place entries first)) chain ≡ true
    here = in_chain chain (entry_at entries first) (rw (← (add-zero first)) (used zero (omega arith)))
        (rw (← (add-zero first)) (on zero (omega arith)))

    by : (b : Bool) → eqb q (uid_in_place entries first) ≡ b
        → (list_any (eqb q) (uids entries (first + 1) n) ≡ true → list_any (eqb q) chain ≡ true)
        → (b || list_any (eqb q) (uids entries (first + 1) n)) ≡ true → list_any (eqb q) chain ≡ true
    by true e others i = elim (eqb_tells q (uid_in_place entries first)) [
      | inl x ↦ rw x.1 here
      | inr x ↦ (let no = sym e ∙ x.0 in absurd cc)
    ]
    by false e others i = others i

-- Of n places that are all used, where the chain has fewer links, one has a segment off the chain.
pub one_off : (entries : List (Option Entry)) (chain : List ℕ) (first n : ℕ) → IsOneToOne entries
    → ((i : ℕ) → i < n → is_some (entry_at entries (first + i)) ≡ true) → length chain < n
    → (i : ℕ) × (i < n) × (off_chain chain (entry_at entries (first + i)) ≡ true)
one_off entries chain first n once used few = by (found_or (λ i. off_chain chain (entry_at entries (first + i))) n)
  where
    by : ((i : ℕ) × (i < n) × (off_chain chain (entry_at entries (first + i)) ≡ true))
        ⊎ ((i : ℕ) → i < n → off_chain chain (entry_at entries (first + i)) ≡ false)
        → (i : ℕ) × (i < n) × (off_chain chain (entry_at entries (first + i)) ≡ true)
    by (inl found) = found
    by (inr none) = let long = length-le_from_is_member nat_eq_equiv (uids entries first n) chain
        (distinct entries first n once used) (all_in entries chain first n used none) in
        absurd (omega (arith, uids_long entries first n))

-- the same of a pool
pub pool_one_off : (s : ActiveSegs) (pool : ℕ) (chain : List ℕ) → IsOneToOne s.entries
    → ((i : ℕ) → i < size_of s.sizes pool → is_some (entry_at s.entries (first_of s.sizes pool + i)) ≡ true)
    → length chain < size_of s.sizes pool → HasOneOffChain s pool chain
pool_one_off s pool chain once used few =
    let found = one_off s.entries chain (first_of s.sizes pool) (size_of s.sizes pool) once used few in
    let lt = found.1 in
    record {
      place = first_of s.sizes pool + found.0;
      in_pool = record { from = omega arith; to = omega arith };
      off = found.2;
    }
