-- The places of the pools, the maps of the used ones, and the index, after the entry of a place changes.
pub use Rattle.active_segs.proofs.Prelude.{ActiveSegs, All, AreNoted, Bool, Entry, HasNoInferior, HasOneOffChain, HasPools, HasShape, IfSome, IsActive, IsActiveAt, IsFirstFree, IsFull, IsInPool, IsIndexed, IsKept, IsLeastFree, IsMarked, IsOneToOne, IsPlaced, IsSome, IsVictim, List, None, Option, Pairs, Ptw, SetsPlace, Some, StandsFor, [], ap, arith, both_ways, cases_eq, cases_order, common_steps, cond, count_by, count_by-le-length, drop, entry_at, eq-eqb, false, find_passes, first_of, first_off_chain, get_or, get_or-drop, get_or-set_other, get_or-set_same, get_or-take, get_or_default, get_or_read, hand_of, in_use, inl, inr, is_some, leaf_below, leaf_of, length, length-drop, length-set, length-take-le, map_of, map_set, ne_eqb, none-some, noted, off_chain, place_of, place_of_superior, refl, round_pool, same_Some, set, size_of, subst, suc, sum, sum_by-cons, sum_by-set, superior_in, sym, take, take_all, true, uid_at, uid_in, used_in, victim_of, zero, ℕ, ◌+◌, ◌-◌, ◌<◌, ◌∙◌, ◌∷◌, ◌≡◌, ◌≢◌, ◌≤◌}
pub use Rattle.active_segs.proofs.EntryLemmas.{entry_kept, entry_set, tree_activated, tree_deactivated, uid_kept, uid_set, used_within}

-- ---- the places of the pools

sum_take_up : (xs : List ℕ) (i : ℕ) → sum (take i xs) ≤ sum (take (suc i) xs)
sum_take_up [] zero = omega arith
sum_take_up [] (suc i) = omega arith
sum_take_up (x ∷ xs) zero = omega arith
sum_take_up (x ∷ xs) (suc i) =
    omega (
      arith,
      sum_take_up xs i,
      sum_by-cons (λ (y : ℕ). y) x (take i xs),
      sum_by-cons (λ (y : ℕ). y) x (take (suc i) xs),
    )

pub sum_take_le : (xs : List ℕ) (i : ℕ) → sum (take i xs) ≤ sum xs
sum_take_le [] zero = omega arith
sum_take_le [] (suc i) = omega arith
sum_take_le (x ∷ xs) zero = omega arith
sum_take_le (x ∷ xs) (suc i) =
    omega (arith, sum_take_le xs i, sum_by-cons (λ (y : ℕ). y) x (take i xs), sum_by-cons (λ (y : ℕ). y) x xs)

first_up : (sizes : List ℕ) (p d : ℕ) → first_of sizes p ≤ first_of sizes (p + d)
first_up sizes p zero = let same : p + 0 ≡ p = omega arith in rw same (omega arith)
first_up sizes p (suc d) =
    let ih : first_of sizes p ≤ first_of sizes (p + d) = first_up sizes p d in
    let step : first_of sizes (p + d) ≤ first_of sizes (suc (p + d)) = sum_take_up sizes (p + d) in
    let same : p + suc d ≡ suc (p + d) = omega arith in rw same (omega arith)

pub first_more : (sizes : List ℕ) (p : ℕ) → p < length sizes → first_of sizes (suc p)
    ≡ first_of sizes p + size_of sizes p
first_more sizes p lt = let one : p + 1 ≡ suc p = omega arith in rw (← one) (grind (arith, common_steps))

-- an earlier pool ends before a later one begins
pub pools_apart : (sizes : List ℕ) (p q : ℕ) → p < length sizes → p < q
    → first_of sizes p + size_of sizes p ≤ first_of sizes q
pools_apart sizes p q lt before =
    let more : first_of sizes (suc p) ≡ first_of sizes p + size_of sizes p = first_more sizes p lt in
    let up : first_of sizes (suc p) ≤ first_of sizes (suc p + (q - suc p)) = first_up sizes (suc p) (q - suc p) in
    let same : suc p + (q - suc p) ≡ q = omega arith in
    let up' : first_of sizes (suc p) ≤ first_of sizes q = rw same at up in omega arith

-- and the last one at the end
pub pool_within : (sizes : List ℕ) (p : ℕ) → length sizes ≡ 4 → p < 4 → first_of sizes p + size_of sizes p ≤ sum sizes
pool_within sizes p four lt =
    let before : first_of sizes p + size_of sizes p ≤ first_of sizes 4 = pools_apart sizes p 4 (omega arith) lt in
    let all : first_of sizes 4 ≡ sum sizes = ap sum (take_all 4 sizes (omega arith)) in omega arith

pub placed_within : (sizes : List ℕ) (place pool offset : ℕ) → length sizes ≡ 4 → IsPlaced sizes place pool offset
    → place < sum sizes
placed_within sizes place pool offset four placed =
    omega (arith, pool_within sizes pool four placed.known, placed.within, placed.is)

-- a place is in one pool
pub placed_once : (sizes : List ℕ) (place p i q j : ℕ) → length sizes ≡ 4 → IsPlaced sizes place p i
    → IsPlaced sizes place q j → (p ≡ q) × (i ≡ j)
placed_once sizes place p i q j four a b =
    let ai = a.is in let aw = a.within in
    let bi = b.is in let bw = b.within in
    elim (cases_order p q) [
      | inl same ↦ (same, (let f : first_of sizes p ≡ first_of sizes q = ap (first_of sizes) same in omega arith))
      | inr differ ↦ elim differ [
        | inl before ↦ absurd (omega (arith, pools_apart sizes p q (omega (arith, a.known)) before))
        | inr after ↦ absurd (omega (arith, pools_apart sizes q p (omega (arith, b.known)) after))
      ]
    ]

-- ---- the maps

pub marked_set : {sizes : List ℕ} {used : List (List Bool)} {xs : List (Option Entry)} {place pool offset : ℕ}
    (b : Bool) (o : Option Entry) → length sizes ≡ 4 → length xs ≡ sum sizes → IsMarked sizes used xs
    → IsPlaced sizes place pool offset → is_some o ≡ b → IsMarked sizes
    (set used pool (set (map_of used pool) offset b)) (set xs place o)
marked_set {sizes} {used} {xs} {place} {pool} {offset} b o four size marked placed is =
    let map = set (map_of used pool) offset b in
    let lt : place < length xs = omega (arith, placed_within sizes place pool offset four placed) in
    let pool_lt : pool < length used = omega (arith, marked.maps, placed.known) in
    let here = get_or-set_same used pool map [] pool_lt in
    let there : (q : ℕ) → q ≢ pool → map_of (set used pool map) q ≡ map_of used q =
    λ q ne. get_or-set_other used pool q map [] ne in
    record {
      maps = length-set used pool map ∙ marked.maps;
      as_long = λ q lt_q. elim (cases_eq q pool) [
        | inl same ↦
            rw same (ap length here ∙ length-set (map_of used pool) offset b ∙ marked.as_long pool placed.known)
        | inr off ↦ ap length (there q off) ∙ marked.as_long q lt_q
      ];
      flags = λ q i lt_q lt_i.
          (let this : IsPlaced sizes (first_of sizes q + i) q i = record { known = lt_q; within = lt_i; is = refl } in
          elim (cases_eq q pool) [
            | inl same ↦ elim (cases_eq i offset) [
              | inl same_i ↦
                  (let at : first_of sizes q + i ≡ place =
                  (let f : first_of sizes q ≡ first_of sizes pool = ap (first_of sizes) same in
                  omega (arith, placed.is)) in
                  let on = get_or-set_same (map_of used pool)
                  offset b false (omega (arith, marked.as_long pool placed.known, placed.within)) in
                  let left : in_use (map_of (set used pool map) q)
                  i ≡ b = rw (ap (map_of (set used pool map)) same ∙ here) (ap (in_use map) same_i ∙ on) in
                  left ∙ sym (ap (λ (k : ℕ). is_some (entry_at (set xs place o) k)) at
                  ∙ (ap is_some (entry_set xs place o lt) ∙ is)))
              | inr off_i ↦
                  (let off : first_of sizes q + i ≢ place = λ e. off_i (placed_once sizes place q i pool offset four
                  (record { known = lt_q; within = lt_i; is = sym e }) placed).1 in
                  ap (λ (m : List Bool). in_use m i) (ap (map_of (set used pool map)) same ∙ here) ∙ get_or-set_other
                  (map_of used pool) offset i b false off_i ∙ ap (λ (k : ℕ). in_use (map_of used k) i) (sym same)
                  ∙ marked.flags q i lt_q lt_i ∙ sym (ap is_some (entry_kept xs place o (first_of sizes q + i) off)))
            ]
            | inr off_q ↦
                (let off : first_of sizes q + i ≢ place = λ e. off_q (placed_once sizes place q i pool offset four
                (record { known = lt_q; within = lt_i; is = sym e }) placed).0 in
                ap (λ (m : List Bool). in_use m i) (there q off_q) ∙ marked.flags q i lt_q lt_i
                ∙ sym (ap is_some (entry_kept xs place o (first_of sizes q + i) off)))
          ]);
    }

-- ---- the index

used_set : (xs : List (Option Entry)) (p : ℕ) (o : Option Entry) → p < length xs → count_by is_some
    (set xs p o) + cond {A = ℕ} (is_some (entry_at xs p)) 1 0 ≡ count_by is_some xs + cond (is_some o) 1 0
used_set xs p o lt = sum_by-set (λ (x : Option Entry). cond (is_some x) 1 0) xs p o None lt

-- where a place is free not all are used
pub not_all_used : (xs : List (Option Entry)) (p : ℕ) → p < length xs → entry_at xs p ≡ None
    → count_by is_some xs < length xs
not_all_used xs p lt free =
    let e : Entry = record { uid = 0; superior = None } in
    let zero_bit : cond {A = ℕ} (is_some (entry_at xs p)) 1 0 ≡ 0 =
    ap (λ (o : Option Entry). cond {A = ℕ} (is_some o) 1 0) free in
    omega (arith, used_set xs p (Some e) lt, count_by-le-length is_some (set xs p (Some e)), length-set xs p (Some e))

-- and the index has room
pub index_has_room : {xs : List (Option Entry)} {index : Pairs} (p : ℕ) → IsIndexed xs index → p < length xs
    → entry_at xs p ≡ None → length index.pairs < index.room
index_has_room {xs} {index} p indexed lt free = omega (arith, not_all_used xs p lt free, indexed.count, indexed.room)

pub index_lacks : {xs : List (Option Entry)} {index : Pairs} (uid : ℕ) → IsIndexed xs index
    → ((q : ℕ) → uid_at xs q ≢ Some uid) → place_of index.pairs uid ≡ None
index_lacks {xs} {index} uid indexed inactive = lacks (place_of index.pairs uid) refl
  where
    lacks : (o : Option ℕ) → place_of index.pairs uid ≡ o → place_of index.pairs uid ≡ None
    lacks None is = is
    lacks (Some q) is = absurd (inactive q ((indexed.places q uid).0 is))

module _ (xs : List (Option Entry)) (old new : Pairs) (p : ℕ) (lt : p < length xs) (indexed : IsIndexed xs old)
    (room : new.room ≡ old.room) where
  this_place : (uid u : ℕ) (place : Option ℕ) → SetsPlace old.pairs new.pairs uid place → uid ≡ u
      → place_of new.pairs u ≡ place
  this_place uid u place sets same = sets u ∙ ap (λ (b : Bool). cond b place (place_of old.pairs u)) (eq-eqb uid u same)

  other_place : (uid u : ℕ) (place : Option ℕ) → SetsPlace old.pairs new.pairs uid place → uid ≢ u
      → place_of new.pairs u ≡ place_of old.pairs u
  other_place uid u place sets ne = sets u ∙ ap (λ (b : Bool). cond b place (place_of old.pairs u)) (ne_eqb uid u ne)

  pub indexed_activated : (e : Entry) → entry_at xs p ≡ None → ((q : ℕ) → uid_at xs q ≢ Some e.uid) → SetsPlace
      old.pairs new.pairs e.uid (Some p) → length new.pairs ≡ length old.pairs + 1 → IsIndexed (set xs p (Some e)) new
  indexed_activated e free inactive sets count = record {
    places = λ q u. elim (cases_eq e.uid u) [
      | inl same ↦
          (let here = this_place e.uid u (Some p) sets same in (
            λ h. (subst (λ (k : ℕ). uid_at (set xs p (Some e)) k ≡ Some u)
                (same_Some p q (sym here ∙ h)) (uid_set xs p (Some e) lt ∙ ap (λ (k : ℕ). Some k) same)),
            λ h. elim (cases_eq q p) [
              | inl at_p ↦ here ∙ ap (λ (k : ℕ). Some k) (sym at_p)
              | inr off ↦ absurd (inactive q (sym (uid_kept xs p (Some e) q off) ∙ h
                  ∙ ap (λ (k : ℕ). Some k) (sym same)))
            ],
          ))
      | inr differ ↦
          (let there = other_place e.uid u (Some p) sets differ in (
            λ h. (let was : uid_at xs q ≡ Some u = (indexed.places q u).0 (sym there ∙ h) in
                let off : q ≢ p = λ same. none-some u (sym (ap uid_in free) ∙ (rw same at was)) in
                uid_kept xs p (Some e) q off ∙ was),
            λ h. elim (cases_eq q p) [
              | inl at_p ↦ absurd (differ (same_Some e.uid u (sym (uid_set xs p (Some e) lt) ∙ (rw at_p at h))))
              | inr off ↦ there ∙ (indexed.places q u).1 (sym (uid_kept xs p (Some e) q off) ∙ h)
            ],
          ))
    ];
    count = (let zero_bit : cond {A = ℕ} (is_some (entry_at xs p)) 1 0 ≡ 0 =
        ap (λ (o : Option Entry). cond {A = ℕ} (is_some o) 1 0) free in
        omega (arith, used_set xs p (Some e) lt, indexed.count));
    room = room ∙ indexed.room ∙ sym (length-set xs p (Some e));
  }

  pub indexed_deactivated : (e : Entry) → entry_at xs p ≡ Some e → IsOneToOne xs → SetsPlace
      old.pairs new.pairs e.uid None → length new.pairs + 1 ≡ length old.pairs → IsIndexed (set xs p None) new
  indexed_deactivated e is once sets count = record {
    places = λ q u. elim (cases_eq e.uid u) [
      | inl same ↦ (
        λ h. absurd (none-some q (sym (this_place e.uid u None sets same) ∙ h)),
        λ h. elim (cases_eq q p) [
          | inl at_p ↦ absurd (none-some u (sym (uid_set xs p None lt) ∙ (rw at_p at h)))
          | inr off ↦ absurd (off (once q p u (sym (uid_kept xs p None q off) ∙ h)
              (ap uid_in is ∙ ap (λ (k : ℕ). Some k) same)))
        ],
      )
      | inr differ ↦
          (let there = other_place e.uid u None sets differ in (
            λ h. (let was : uid_at xs q ≡ Some u = (indexed.places q u).0 (sym there ∙ h) in
                let off : q ≢ p = λ same. differ (same_Some e.uid u (sym (ap uid_in is) ∙ (rw same at was))) in
                uid_kept xs p None q off ∙ was),
            λ h. elim (cases_eq q p) [
              | inl at_p ↦ absurd (none-some u (sym (uid_set xs p None lt) ∙ (rw at_p at h)))
              | inr off ↦ there ∙ (indexed.places q u).1 (sym (uid_kept xs p None q off) ∙ h)
            ],
          ))
    ];
    count = (let one_bit : cond {A = ℕ} (is_some (entry_at xs p)) 1 0 ≡ 1 =
        ap (λ (o : Option Entry). cond {A = ℕ} (is_some o) 1 0) is in
        omega (arith, used_set xs p None lt, indexed.count));
    room = room ∙ indexed.room ∙ sym (length-set xs p None);
  }
