-- The 256 places of a table, of which only the first are kept.
use Rattle.known_segs.proofs.Prelude.{◌≡◌, ℕ, suc, zero, ◌+◌, ◌-◌, ◌<◌, ◌≤◌, Bool, not, cond, eqb, nat_lt, List, [], ◌∷◌, ◌++◌, length, replicate, Option, Some, None, refl, sym, ap, subst, ◌∙◌, arith, get_or, set, take, inl, inr, is_none, IsSome, append_assoc, prefix_len, cases_lt, nat_tests, common_steps, get_or_past, get_or_append_left, get_or-append_right, set-append_left, get_or_default, set-append_right, length-append, length-replicate, length-set, prefix_len-append, prefix_len-replicate, prefix_len-le-length, position-Some, uid_of, stands_for, number_of, least_free, padded, HasOneNumberEach, blank}
use Rattle.known_segs.proofs.Numbers.{within_since_some}

abbrev Table : Type 0
Table = List (Option ℕ)

-- the places that aren't kept
abbrev rest : Table → Table
rest kept = replicate (256 - length kept) None

pub padded_size : (kept : Table) → length kept ≤ 256 → length (padded kept) ≡ 256
unfolding padded
padded_size kept few =
    omega (arith, length-append kept (rest kept), length-replicate {A = Option ℕ} (256 - length kept) None)

-- what a number stands for
pub padded_at : (kept : Table) (n : ℕ) → uid_of kept n ≡ uid_of (padded kept) n
unfolding padded
padded_at kept n = elim (cases_lt n (length kept)) [
  | inl lt ↦ sym (get_or_append_left kept (rest kept) None n lt)
  | inr past ↦ get_or_past kept n None past ∙ sym (get_or-append_right kept (rest kept) (length kept) n None refl past
      ∙ blank (256 - length kept) (n - length kept))
]

-- ---- searches

-- a search through a front of a list, and on
goes_on : {a : ℕ} (n m : ℕ) {b t : ℕ} → a ≤ n → b ≡ cond (eqb a n) (n + m) a → t ≡ n + m
    → cond (nat_lt a n) (Some a) None ≡ cond (nat_lt b t) (Some b) None
goes_on n m le e f = grind (arith, nat_tests)

stops : {a n : ℕ} (m : ℕ) {b t : ℕ} → a ≤ n → b ≡ cond (eqb a n) (n + 0) a → t ≡ n + m
    → cond (nat_lt b t) (Some b) None ≡ cond (nat_lt a n) (Some a) (cond (nat_lt 0 m) (Some n) None)
stops m le e f = grind (arith, nat_tests)

-- the number of a uid
pub padded_number : (kept : Table) (uid : ℕ) → number_of kept uid ≡ number_of (padded kept) uid
unfolding padded
padded_number kept uid =
    let q : Option ℕ → Bool = λ x. not (stands_for uid x) in
    let m : ℕ = 256 - length kept in
    let all : prefix_len q (rest kept) ≡ m = prefix_len-replicate q m None refl in
    goes_on (length kept) m (prefix_len-le-length q kept) (cc (prefix_len-append q kept (rest kept)))
    (cc (length-append kept (rest kept), length-replicate {A = Option ℕ} m None))

front : (m : ℕ) → prefix_len (λ x. not (is_none x)) (replicate {A = Option ℕ} m None) ≡ 0
front zero = refl
front (suc m) = refl

-- the least number that stands for nothing
padded_free : (kept : Table) → least_free (padded kept) ≡ cond (nat_lt (prefix_len (λ x. not (is_none x)) kept)
    (length kept)) (Some (prefix_len (λ x. not (is_none x)) kept)) (cond (nat_lt 0 (256 - length kept))
    (Some (length kept)) None)
unfolding padded
padded_free kept =
    let q : Option ℕ → Bool = λ x. not (is_none x) in
    let m : ℕ = 256 - length kept in
    stops m (prefix_len-le-length q kept) (cc (prefix_len-append q kept (rest kept), front m))
    (cc (length-append kept (rest kept), length-replicate {A = Option ℕ} m None))

pub free_kept : (kept : Table) {n : ℕ} → Some n ≡ least_free kept → Some n ≡ least_free (padded kept)
free_kept kept e = grind (arith, padded_free kept, nat_tests)

pub free_next : (kept : Table) → None ≡ least_free kept → length kept < 256 → Some (length kept)
    ≡ least_free (padded kept)
free_next kept e lt = grind (arith, padded_free kept, nat_tests)

pub none_free : (kept : Table) → None ≡ least_free kept → 256 ≤ length kept → None ≡ least_free (padded kept)
none_free kept e le = grind (arith, padded_free kept, nat_tests)

-- ---- changes

pub padded_set : (kept : Table) (n : ℕ) (o : Option ℕ) → n < length kept → padded (set kept n o) ≡ set (padded kept) n o
unfolding padded
padded_set kept n o lt = cc (length-set kept n o, set-append_left kept (rest kept) n o lt)

-- the least free number is at most that of the first place that isn't kept
pub at_most_next : (kept : Table) {n : ℕ} → length kept ≤ 256 → least_free (padded kept) ≡ Some n
    → (n ≤ length kept) × (n < 256)
at_most_next kept {n} few e =
    let h = position-Some is_none (padded kept) n None e in
    let size = padded_size kept few in
    let within = h.0 in
    elim (cases_lt (length kept) n) [
      | inl lt ↦ absurd (cc (
        h.2 (length kept) lt,
        ap is_none (sym (padded_at kept (length kept))
            ∙ get_or_past kept (length kept) None (omega arith)),
      ))
      | inr le ↦ (omega arith, omega arith)
    ]

pub padded_push : (kept : Table) {n : ℕ} (uid : ℕ) → n ≡ length kept → n < 256 → padded (kept ++ Some uid ∷ [])
    ≡ set (padded kept) n (Some uid)
unfolding padded
padded_push kept {n} uid here lt =
    let left : 256 - length kept ≡ suc (256 - length (kept ++ Some uid ∷ [])) =
    omega (arith, length-append kept (Some uid ∷ [])) in
    append_assoc kept (Some uid ∷ []) (replicate (256 - length (kept ++ Some uid ∷ [])) None)
    ∙ sym (set-append_right kept (rest kept) (length kept) n (Some uid) refl (omega arith)
    ∙ ap (λ (k : ℕ). kept ++ set (rest kept) k (Some uid)) (omega arith)
    ∙ ap (λ (k : ℕ). kept ++ set (replicate k None) 0 (Some uid)) left)

-- an empty place at the end needn't be kept
pub padded_pop : (kept : Table) → length kept < 256 → padded (kept ++ None ∷ []) ≡ padded kept
unfolding padded
padded_pop kept lt =
    let left : 256 - length kept ≡ suc (256 - length (kept ++ None ∷ [])) =
    omega (arith, length-append kept (None ∷ [])) in
    cc (append_assoc kept (None ∷ []) (replicate (256 - length (kept ++ None ∷ [])) None))

last_set : (kept : Table) (n : ℕ) → n + 1 ≡ length kept → set kept n None ≡ take n kept ++ None ∷ []
last_set [] n e = absurd (omega arith)
last_set (x ∷ []) zero e = refl
last_set (x ∷ y ∷ ys) zero e = absurd (omega arith)
last_set (x ∷ xs) (suc n) e = cc (last_set xs n (omega (arith, e)))

pub last_dropped : (kept : Table) {left now : Table} {n m : ℕ} → padded kept ≡ now → length kept ≤ 256
    → n + 1 ≡ length kept → m ≡ n → left ≡ take m kept → padded left ≡ set now n None
last_dropped kept {left} {n} shown few e here cut =
    let within : n ≤ length kept = omega arith in
    let short : length (take n kept) ≡ n = grind (arith, common_steps) in
    cc (padded_pop (take n kept) (omega arith), last_set kept n e, padded_set kept n None (omega arith))

pub cleared_is : (kept : Table) {now : Table} (n : ℕ) → padded kept ≡ now → n < length kept → padded (set kept n None)
    ≡ set now n None
cleared_is kept n shown lt = cc (padded_set kept n None lt)

pub known_is_kept : (kept : Table) (n : ℕ) → IsSome (uid_of (padded kept) n) → n < length kept
known_is_kept kept n h = within_since_some kept n (subst IsSome (sym (padded_at kept n)) h)

-- ---- as the steps of the functions say it, where `now` is what a contract sees

pub none_kept : (kept : Table) → kept ≡ [] → padded kept ≡ replicate 256 None
unfolding padded
none_kept kept e = rw e refl

pub nothing_known : {kst : Table} → kst ≡ replicate 256 None → (length kst ≡ 256) × HasOneNumberEach kst
nothing_known e = (
  ap length e ∙ length-replicate {A = Option ℕ} 256 None,
  λ n m uid f g. cc (blank 256 n, subst (λ (t : Table). uid_of t n ≡ Some uid) e f),
)

pub size_is : (kept now : Table) → padded kept ≡ now → length kept ≤ 256 → length now ≡ 256
size_is kept now shown few = rw (← shown) (padded_size kept few)

pub at_kept : (kept now : Table) (n : ℕ) (r : Option ℕ) → padded kept ≡ now → n < length kept → r ≡ get_or kept n r
    → r ≡ uid_of now n
at_kept kept now n r shown lt is = rw (← shown) (is ∙ get_or_default kept n r None lt ∙ padded_at kept n)

pub at_blank : (kept now : Table) (n : ℕ) → padded kept ≡ now → length kept ≤ n → None ≡ uid_of now n
at_blank kept now n shown le = rw (← shown) (sym (get_or_past kept n None le) ∙ padded_at kept n)

pub number_is : {kept now searched : Table} (uid : ℕ) {r : Option ℕ} → padded kept ≡ now → searched ≡ kept → r
    ≡ number_of searched uid → r ≡ number_of now uid
number_is {kept} uid {r} shown same is = rw (← shown) (is ∙ ap (λ (t : Table). number_of t uid) same ∙ padded_number
    kept uid)

pub free_is_kept : {kept now searched : Table} {n : ℕ} → padded kept ≡ now → searched ≡ kept → Some n
    ≡ least_free searched → Some n ≡ least_free now
free_is_kept {kept} {n} shown same is = rw (← shown) (free_kept kept (is ∙ ap (λ (t : Table). least_free t) same))

pub free_is_next : {kept now searched : Table} {n : ℕ} → padded kept ≡ now → searched ≡ kept → None
    ≡ least_free searched → n < 256 → n ≡ length kept → Some n ≡ least_free now
free_is_next {kept} {n} shown same is lt here = rw (← shown) (ap (λ (k : ℕ). Some k) here
    ∙ free_next kept (is ∙ ap (λ (t : Table). least_free t) same) (omega (arith, lt, here)))

pub free_is_none : {kept now searched : Table} → padded kept ≡ now → searched ≡ kept → None ≡ least_free searched
    → 256 ≤ length kept → None ≡ least_free now
free_is_none {kept} shown same is le = rw (← shown) (none_free kept (is ∙ ap (λ (t : Table). least_free t) same) le)

pub set_is : (kept : Table) {now : Table} (n uid : ℕ) → padded kept ≡ now → n < length kept
    → padded (set kept n (Some uid)) ≡ set now n (Some uid)
set_is kept n uid shown lt = cc (padded_set kept n (Some uid) lt)

pub push_is : (kept : Table) {now : Table} {n : ℕ} (uid : ℕ) → padded kept ≡ now → length kept ≤ 256
    → least_free now ≡ Some n
    → length kept ≤ n → (padded (kept ++ Some uid ∷ []) ≡ set now n (Some uid)) × (length kept < 256)
push_is kept {n} uid shown few free le =
    let most = at_most_next kept {n = n} few (rw shown free) in
    (cc (padded_push kept {n = n} uid (omega arith) most.1), omega arith)

-- what a look at a place goes by
pub ruleset place_seen = (at_kept, at_blank, size_is)
