-- What a process knows by numbers, and whether there is a number for one segment more.
use Rattle.storage_ops.proofs.Prelude.{◌≡◌, ◌↔◌, ℕ, zero, suc, ◌+◌, ◌<◌, ◌≤◌, Bool, true, false, cond, List, [], ◌∷◌, length, Option, Some, None, Ok, Err, get_or, is_some, is_none, IsTrue, refl, ◌∙◌, arith, count_by, sum_by-cons, position-Some, known_count, number_for, number_of, uid_of, Reply, Node, segment_at, initiate_reply, known_or_full, terminate_reply, Store, free_none, kst_at, refusal, Reply as reply, Known_least_free as least_free}

-- ---- the least free number

count_first : {X : Type 0} (o : Option X) (xs : List (Option X))
    → count_by is_some (o ∷ xs) ≡ cond {A = ℕ} (is_some o) 1 0 + count_by is_some xs
count_first {X} o xs = sum_by-cons (λ (x : Option X). cond (is_some x) 1 0) o xs

count_most : {X : Type 0} (xs : List (Option X)) → count_by is_some xs ≤ length xs
count_most [] = omega arith
count_most (None ∷ xs) = (omega (arith, count_first None xs, count_most xs))
count_most (Some u ∷ xs) = (omega (arith, count_first (Some u) xs, count_most xs))

-- where one is missing, fewer are there than places
pub count_less : {X : Type 0} (xs : List (Option X)) (i : ℕ) → i < length xs → is_none (get_or xs i None) ≡ true
    → count_by is_some xs < length xs
count_less [] i lt none = absurd (omega arith)
count_less (None ∷ xs) zero lt none = (omega (arith, count_first None xs, count_most xs))
count_less (Some u ∷ xs) zero lt none = cc
count_less (None ∷ xs) (suc i) lt none = (let first = count_first None xs in
    let rest = count_less xs i (omega arith) none in omega arith)
count_less (Some u ∷ xs) (suc i) lt none = (let first = count_first (Some u) xs in
    let rest = count_less xs i (omega arith) none in omega arith)

-- where all are there, they are as many as places
pub count_full : {X : Type 0} (xs : List (Option X)) → ((k : ℕ) → k < length xs → is_some (get_or xs k None) ≡ true)
    → count_by is_some xs ≡ length xs
count_full [] each = refl
count_full (None ∷ xs) each = (let none = each 0 (omega arith) in cc)
count_full (Some u ∷ xs) each = (let first = count_first (Some u) xs in
    let rest = count_full xs (λ k lt. each (suc k) (omega arith)) in omega arith)

count_all : (kst : List (Option ℕ)) → ((k : ℕ) → k < length kst → is_none (uid_of kst k) ≡ false)
    → known_count kst ≡ length kst
count_all [] each = refl
count_all (None ∷ kst) each = (let none = each 0 (omega arith) in cc)
count_all (Some u ∷ kst) each = (let first = count_first (Some u) kst in
    let rest = count_all kst (λ k lt. each (suc k) (omega arith)) in omega arith)

-- ---- a number for a segment

-- a segment that isn't known gets a number where fewer than 256 are known
pub room_told : (kst : List (Option ℕ)) (uid : ℕ) (o : Option ℕ) (b : Bool) → length kst ≡ 256 → o ≡ number_of kst uid
    → is_some o ≡ false → (IsTrue b ↔ (known_count kst < 256)) → b ≡ is_some (number_for kst uid)
room_told kst uid o b long is none tells = cc (by (least_free kst) refl, none_is o none, is)
  where
    none_is : (o : Option ℕ) → is_some o ≡ false → o ≡ None
    none_is None e = refl
    none_is (Some n) e = cc

    by_room : (z : Bool) → (z ≡ true → known_count kst < 256) → known_count kst ≡ 256 → z ≡ false
    by_room true few all = (let lt = few refl in absurd (omega arith))
    by_room false few all = refl

    by : (o : Option ℕ) → least_free kst ≡ o → b ≡ is_some o
    by None e = (by_room b tells.0 ((count_all kst (λ k lt. free_none kst k e lt)) ∙ long))
    by (Some i) e = (let h = position-Some is_none kst i None e in
        let less = count_less kst i h.0 h.1 in
        tells.1 (omega arith))

pub number_told : (kst : List (Option ℕ)) (uid : ℕ) (o : Option ℕ) → o ≡ number_of kst uid → is_some o ≡ true
    → true ≡ is_some (number_for kst uid)
number_told kst uid None is some = cc
number_told kst uid (Some n) is some = cc

-- ---- replies

module _ (s : Store) {nodes : List Node} {known : List (List (Option ℕ))} (nodes_are : s.nodes ≡ nodes)
    (known_is : s.known ≡ known) where
  pub initiate_refused : (process : ℕ) (path : List (List ℕ)) {r : Reply} → segment_at nodes path ≡ Err r
      → r ≡ initiate_reply s process path
  unfolding initiate_reply
  initiate_refused process path e = cc

  pub initiate_told : (process : ℕ) (path : List (List ℕ)) {n : Node} {o : Option ℕ} → segment_at nodes path ≡ Ok n
      → o ≡ number_for (kst_at known process) n.uid → known_or_full o ≡ initiate_reply s process path
  unfolding initiate_reply
  initiate_told process path {n} e is = cc

  pub terminate_told : (process number : ℕ) {o : Option ℕ} → o ≡ uid_of (kst_at known process) number
      → cond (is_some o) reply.Done reply.Unknown ≡ terminate_reply s process number
  unfolding terminate_reply
  terminate_told process number is = cc

  -- where there is a number for the segment, and where there is none
  pub initiate_free : (process : ℕ) (path : List (List ℕ)) {n : Node} {b : Bool} → segment_at nodes path ≡ Ok n
      → b ≡ is_some (number_for (kst_at known process) n.uid)
      → cond b None (Some reply.Full) ≡ refusal (initiate_reply s process path)
  initiate_free process path {n} e is = cc (
    told (number_for (kst_at known process) n.uid),
    initiate_told process path e refl,
  )
    where
      told : (o : Option ℕ) → cond {A = Option Reply} (is_some o) None (Some reply.Full) ≡ refusal (known_or_full o)
      told None = refl
      told (Some i) = refl
