-- What the number of a uid and the least free number are, place by place.
use Rattle.known_segs.proofs.Prelude.{◌≡◌, ◌≢◌, ℕ, suc, zero, ◌+◌, ◌<◌, Bool, true, false, List, [], ◌∷◌, length, Option, Some, None, refl, sym, ap, ◌∙◌, arith, get_or, set, inl, inr, is_some, is_none, IsSome, IsNone, IsTrue, ◌↔◌, eqb-true, eq-eqb, both_ways, cases_eq, cases_lt, get_or_past, get_or-set_same, get_or-set_other, set-get_or, count_by-le-length, position-Some, common_steps, uid_of, stands_for, number_of, least_free, with_number, known_count, IsUnknown, HasOneNumberEach, position_none}

stands_for_is : (uid : ℕ) (o : Option ℕ) → stands_for uid o ≡ true → o ≡ Some uid
stands_for_is uid None e = cc
stands_for_is uid (Some u) e = cc (eqb-true u uid e)

is_stands_for : (uid : ℕ) (o : Option ℕ) → o ≡ Some uid → stands_for uid o ≡ true
is_stands_for uid None e = cc
is_stands_for uid (Some u) e = let same : u ≡ uid = cc in eq-eqb u uid same

pub within_since_known : (kst : List (Option ℕ)) (n : ℕ) {uid : ℕ} → uid_of kst n ≡ Some uid → n < length kst
within_since_known kst n e = elim (cases_lt n (length kst)) [
  | inl lt ↦ lt
  | inr past ↦ cc (get_or_past kst n None past)
]

pub within_since_some : (kst : List (Option ℕ)) (n : ℕ) → IsSome (uid_of kst n) → n < length kst
within_since_some kst n h = elim (cases_lt n (length kst)) [
  | inl lt ↦ lt
  | inr past ↦ absurd (both_ways _ (ap is_some (get_or_past kst n None past)) h)
]

pub number_some : (kst : List (Option ℕ)) (uid n : ℕ) → number_of kst uid ≡ Some n → (n < length kst)
    × (uid_of kst n ≡ Some uid)
number_some kst uid n e =
    let h = position-Some (stands_for uid) kst n None e in
    (h.0, stands_for_is uid _ h.1)

pub number_none : (kst : List (Option ℕ)) {uid : ℕ} → number_of kst uid ≡ None → IsUnknown kst uid
number_none kst {uid} e n known =
    both_ways _ (position_none (stands_for uid) kst e n None (within_since_known kst n {uid = uid} known))
    (is_stands_for uid _ known)

-- a number stands for the uid exactly where it is the uid's number
pub numbered : (kst : List (Option ℕ)) (uid : ℕ) (r : Option ℕ) → HasOneNumberEach kst → r ≡ number_of kst uid → (n : ℕ)
    → (r ≡ Some n) ↔ (uid_of kst n ≡ Some uid)
numbered kst uid None once e n = (λ h. cc, λ h. absurd (number_none kst (sym e) n h))
numbered kst uid (Some m) once e n =
    let h = number_some kst uid m (sym e) in (
      (λ s. let same : m ≡ n = cc in rw (← same) h.1),
      λ known. cc (once m n uid h.1 known),
    )

pub unknown_is : (kst : List (Option ℕ)) (uid : ℕ) (r : Option ℕ) → r ≡ number_of kst uid → IsNone r ↔ IsUnknown kst uid
unknown_is kst uid None e = (λ _. number_none kst (sym e), λ _. refl)
unknown_is kst uid (Some m) e = (λ h. cc, λ unknown. absurd (unknown m (number_some kst uid m (sym e)).1))

free_is : (o : Option ℕ) → is_none o ≡ true → o ≡ None
free_is None e = refl
free_is (Some u) e = cc

pub free_some : (kst : List (Option ℕ)) (n : ℕ) → least_free kst ≡ Some n → (n < length kst) × (uid_of kst n ≡ None)
free_some kst n e =
    let h = position-Some is_none kst n None e in
    (h.0, free_is _ h.1)

all_known : (xs : List (Option ℕ)) → ((k : ℕ) → k < length xs → is_none (get_or xs k None) ≡ false) → known_count xs
    ≡ length xs
all_known [] h = refl
all_known (None ∷ xs) h = let no_place : true ≡ false = h 0 (omega arith) in cc
all_known (Some u ∷ xs) h =
    let more : known_count (Some u ∷ xs) ≡ 1 + known_count xs = grind (arith, common_steps) in
    omega (arith, all_known xs (λ k lt. h (suc k) (omega arith)))

some_free : (xs : List (Option ℕ)) (n : ℕ) → n < length xs → uid_of xs n ≡ None → known_count xs < length xs
some_free [] n lt e = omega arith
some_free (None ∷ xs) n lt e = omega (arith, count_by-le-length is_some xs)
some_free (Some u ∷ xs) zero lt e = cc
some_free (Some u ∷ xs) (suc n) lt e =
    let more : known_count (Some u ∷ xs) ≡ 1 + known_count xs = grind (arith, common_steps) in
    omega (arith, some_free xs n (omega arith) e)

pub count_full : (kst : List (Option ℕ)) → least_free kst ≡ None → known_count kst ≡ length kst
count_full kst e = all_known kst (λ k lt. position_none is_none kst e k None lt)

-- there is a free number exactly where fewer than all are known
pub room_is : (kst : List (Option ℕ)) (r : Option ℕ) (b : Bool) → length kst ≡ 256 → r ≡ least_free kst → b ≡ is_some r
    → IsTrue b ↔ (known_count kst < 256)
room_is kst None b size e is =
    (λ h. cc, λ lt. absurd (omega (arith, count_full kst (sym e))))
room_is kst (Some n) b size e is =
    let free = free_some kst n (sym e) in
    let less = some_free kst n free.0 free.1 in (λ _. omega arith, λ _. is)

-- a uid that is known keeps its number
pub known_stays : {kst : List (Option ℕ)} (uid : ℕ) {n : ℕ} → Some n ≡ number_of kst uid
    → kst ≡ with_number kst uid (Some n)
known_stays {kst} uid {n} e =
    rw (← (number_some kst uid n (sym e)).1) (sym (set-get_or kst n None))

pub known_is_some : (kst : List (Option ℕ)) (uid n size : ℕ) → Some n ≡ number_of kst uid → IsNone (Some n)
    ↔ ((known_count kst ≡ size) × IsUnknown kst uid)
known_is_some kst uid n size e = (λ h. cc, λ h. absurd (h.1 n (number_some kst uid n (sym e)).1))

pub given_is_some : (kst : List (Option ℕ)) (uid n : ℕ) → length kst ≡ 256 → Some n ≡ least_free kst
    → IsNone (Some n) ↔ ((known_count kst ≡ 256) × IsUnknown kst uid)
given_is_some kst uid n size e =
    let free = free_some kst n (sym e) in
    let less = some_free kst n free.0 free.1 in
    (λ h. cc, λ h. absurd (let full : known_count kst ≡ 256 = h.0 in omega arith))

pub none_is_full : (kst : List (Option ℕ)) {uid : ℕ} {r : Option ℕ} → r ≡ None → length kst ≡ 256 → None
    ≡ number_of kst uid → None ≡ least_free kst → IsNone r ↔ ((known_count kst ≡ 256) × IsUnknown kst uid)
none_is_full kst {uid} none size unknown full = (
  λ h. (
    count_full kst (sym full) ∙ size,
    number_none kst {uid = uid} (sym unknown),
  ),
  λ h. ap is_some none,
)

-- a new number for a uid that has none
pub once_given : (kst : List (Option ℕ)) {uid : ℕ} (n : ℕ) → HasOneNumberEach kst → n < length kst → IsUnknown kst uid
    → HasOneNumberEach (set kst n (Some uid))
once_given kst {uid} n once lt unknown a b u e f =
    elim (cases_eq a n) [
      | inl at_a ↦ elim (cases_eq b n) [
        | inl at_b ↦ at_a ∙ sym at_b
        | inr off_b ↦ absurd (clash a b at_a off_b e f)
      ]
      | inr off_a ↦ elim (cases_eq b n) [
        | inl at_b ↦ absurd (clash b a at_b off_a f e)
        | inr off_b ↦ once a b u (sym (kept a off_a) ∙ e) (sym (kept b off_b) ∙ f)
      ]
    ]
  where
    given : List (Option ℕ)
    given = set kst n (Some uid)

    kept : (k : ℕ) → k ≢ n → get_or given k None ≡ get_or kst k None
    kept k off = get_or-set_other kst n k (Some uid) None off

    -- no other number stands for the uid
    clash : (i j : ℕ) → i ≡ n → j ≢ n → get_or given i None ≡ Some u → get_or given j None ≡ Some u → ⊥
    clash i j at_i off_j is other =
        unknown j (cc (get_or-set_same kst n (Some uid) None lt, rw at_i at is, kept j off_j))

-- a number given up
pub once_forgotten : (kst : List (Option ℕ)) (n : ℕ) → HasOneNumberEach kst → n < length kst
    → HasOneNumberEach (set kst n None)
once_forgotten kst n once lt a b u e f = once a b u (still kst n a u lt e) (still kst n b u lt f)
  where
    still : (kst : List (Option ℕ)) (n a u : ℕ) → n < length kst → get_or (set kst n None) a None ≡ Some u
        → get_or kst a None ≡ Some u
    still kst n a u lt e = elim (cases_eq a n) [
      | inl at_a ↦ cc (get_or-set_same kst n None None lt, rw at_a at e)
      | inr off_a ↦ sym (get_or-set_other kst n a None None off_a) ∙ e
    ]

-- what was known stays so where an empty place is filled
pub kept_given : (kst : List (Option ℕ)) (n uid : ℕ) → uid_of kst n ≡ None → (m v : ℕ) → uid_of kst m ≡ Some v
    → uid_of (set kst n (Some uid)) m ≡ Some v
kept_given kst n uid empty m v known = elim (cases_eq m n) [
  | inl e ↦ (let none : uid_of kst m ≡ None = rw e empty in absurd (cc))
  | inr ne ↦ get_or-set_other kst n m (Some uid) None ne ∙ known
]
