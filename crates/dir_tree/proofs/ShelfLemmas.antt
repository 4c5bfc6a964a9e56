-- The shelves of the index, and the list of all places on them.
use Rattle.dir_tree.proofs.Prelude.{common_steps, ◌≡◌, ◌≢◌, ℕ, zero, suc, ◌+◌, ◌-◌, ◌<◌, ◌≤◌, false, List, [], ◌∷◌, length, Option, Some, None, refl, sym, ap, ◌∙◌, arith, get_or, set, inl, inr, ◌⊎◌, ◌↔◌, IfSome, IfNone, concat, insert, remove, Less, cases_eq, cases_lt, cases_order, false_from_ne_true, get_or_append_left, get_or-append-add, get_or_read, get_or-set_same, get_or-set_other, length-set, length-append, length-insert, insert-append_left, insert-append_right, remove-append_left, remove-append_right, is_branch, Node, shape, Key, HasPlace, IsOrdered, AreWithin, AreShelved, node_at, key_of, key_at, key_cmp, key_hash, before, shelf_at, shelf_of, nat_tests}
use Rattle.dir_tree.proofs.IndexLemmas.{after_other, branch_key, hash_is, hash_less, inserted_sorted, place_inserted, place_removed, ordered_more, ordered_less}
use Rattle.dir_tree.proofs.EditLemmas.{fewer}

-- ---- where a place of a shelf stands among all

pub on_shelf : (xs : List (List ℕ)) (m k : ℕ) → k < length (shelf_at xs m)
    → (before xs m + k < length (concat xs)) × (get_or (concat xs) (before xs m + k) 0 ≡ get_or (shelf_at xs m) k 0)
on_shelf [] m k lt = absurd (omega arith)
on_shelf (x ∷ xs) zero k lt = grind (arith, nat_tests, common_steps, length-append, get_or_append_left)
on_shelf (x ∷ xs) (suc m) k lt =
    let r = on_shelf xs m k lt in
    let n = length-append x (concat xs) in
    let further : length x + before xs m + k ≡ length x + (before xs m + k) = omega arith in
    (omega arith, rw further (get_or-append-add x (concat xs) (before xs m + k) 0 ∙ r.1))

-- where the k-th of all places stands
pub record Located (xs : List (List ℕ)) (k : ℕ) : Type 0 where
  pub m : ℕ
  pub j : ℕ
  pub within : j < length (shelf_at xs m)
  pub is : k ≡ before xs m + j

pub located : (xs : List (List ℕ)) (k : ℕ) → k < length (concat xs) → Located xs k
located [] k lt = absurd (omega arith)
located (x ∷ xs) k lt = elim (cases_lt k (length x)) [
  | inl here ↦ record { m = 0; j = k; within = here; is = omega arith }
  | inr past ↦
      (let n = length-append x (concat xs) in
      let r = located xs (k - length x) (omega arith) in
      record { m = suc r.m; j = r.j; within = r.within; is = omega arith })
]

-- what stands on a later shelf stands after all of an earlier one
pub before_later : (xs : List (List ℕ)) (m n : ℕ) → m < n → before xs m + length (shelf_at xs m) ≤ before xs n
before_later [] m n lt = omega arith
before_later (x ∷ xs) zero zero lt = absurd (omega arith)
before_later (x ∷ xs) zero (suc n) lt = omega arith
before_later (x ∷ xs) (suc m) zero lt = absurd (omega arith)
before_later (x ∷ xs) (suc m) (suc n) lt = omega (arith, before_later xs m n (omega arith))

pub shelf_of_all : (xs : List (List ℕ)) (m p : ℕ) → HasPlace (shelf_at xs m) p → HasPlace (concat xs) p
shelf_of_all xs m p there =
    let r = on_shelf xs m there.at there.within in
    record { at = before xs m + there.at; within = r.0; is = cc }

-- the shelf that a place stands on
pub on_some : (xs : List (List ℕ)) (p : ℕ) → HasPlace (concat xs) p → (m : ℕ) × HasPlace (shelf_at xs m) p
on_some xs p there =
    let l = located xs there.at there.within in
    (l.m, record { at = l.j; within = l.within; is = sym (on_shelf xs l.m l.j l.within).1 ∙ (rw (← l.is) there.is) })

pub shelf_there : (xs : List (List ℕ)) (m at : ℕ) → at < length (shelf_at xs m) → m < length xs
shelf_there [] m at lt = absurd (omega arith)
shelf_there (x ∷ xs) zero at lt = omega arith
shelf_there (x ∷ xs) (suc m) at lt = (omega (arith, shelf_there xs m at lt))

-- ---- one place more on a shelf, and one less

pub concat_insert : (xs : List (List ℕ)) (m at p : ℕ) → m < length xs → at ≤ length (shelf_at xs m)
    → concat (set xs m (insert (shelf_at xs m) at p)) ≡ insert (concat xs) (before xs m + at) p
concat_insert [] m at p within le = absurd (omega arith)
concat_insert (x ∷ xs) zero at p within le =
    let z : 0 + at ≡ at = omega arith in rw z (sym (insert-append_left x (concat xs) at p le))
concat_insert (x ∷ xs) (suc m) at p within le =
    let rest : length x + before xs m + at - length x ≡ before xs m + at = omega arith in
    let right = insert-append_right x (concat xs) (length x) (length x + before xs m + at) p refl (omega arith) in
    rw (concat_insert xs m at p (omega arith) le, right, rest) refl

pub concat_remove : (xs : List (List ℕ)) (m at : ℕ) → at < length (shelf_at xs m)
    → concat (set xs m (remove (shelf_at xs m) at)) ≡ remove (concat xs) (before xs m + at)
concat_remove [] m at lt = absurd (omega arith)
concat_remove (x ∷ xs) zero at lt =
    let z : 0 + at ≡ at = omega arith in rw z (sym (remove-append_left x (concat xs) at lt))
concat_remove (x ∷ xs) (suc m) at lt =
    let rest : length x + before xs m + at - length x ≡ before xs m + at = omega arith in
    let right = remove-append_right x (concat xs) (length x) (length x + before xs m + at) refl (omega arith) in
    rw (concat_remove xs m at lt, right, rest) refl

pub all_within : (xs : List (List ℕ)) (m at : ℕ) → at ≤ length (shelf_at xs m) → before xs m + at ≤ length (concat xs)
all_within [] m at le = omega arith
all_within (x ∷ xs) zero at le = omega (arith, length-append x (concat xs))
all_within (x ∷ xs) (suc m) at le = omega (arith, all_within xs m at le, length-append x (concat xs))

-- ---- the order of a shelf

module _ (nodes : List Node) (xs : List (List ℕ)) (hashes : List ℕ) (order : IsOrdered nodes (concat xs) hashes)
    (m : ℕ) where
  key_on : (k : ℕ) → k < length (shelf_at xs m)
      → key_at nodes (shelf_at xs m) k ≡ key_at nodes (concat xs) (before xs m + k)
  key_on k lt = cc ((on_shelf xs m k lt).1)

  pub shelf_ordered : IsOrdered nodes (shelf_at xs m) hashes
  shelf_ordered = record {
    sorted = λ i j lt within. rw (key_on i (omega arith), key_on j within)
        (order.sorted (before xs m + i) (before xs m + j) (omega arith) (on_shelf xs m j within).0);
    hashed = λ p there. order.hashed p (shelf_of_all xs m p there);
    slots = λ p there. order.slots p (shelf_of_all xs m p there);
  }

  pub shelf_within : AreWithin nodes (concat xs) → AreWithin nodes (shelf_at xs m)
  shelf_within within k lt = let r = on_shelf xs m k lt in rw r.1 at (within (before xs m + k) r.0)

-- ---- a search on the shelf of a hash

pub none_elsewhere : (nodes : List Node) (xs : List (List ℕ)) (hashes : List ℕ) (superior : ℕ) (name : List ℕ)
    → IsOrdered nodes (concat xs) hashes → AreShelved xs hashes
    → ((p : ℕ) → HasPlace (shelf_at xs (shelf_of (key_hash (Some superior, name)))) p
    → is_branch superior name (shape (node_at nodes p)) ≡ false)
    → (p : ℕ) → HasPlace (concat xs) p → is_branch superior name (shape (node_at nodes p)) ≡ false
none_elsewhere nodes xs hashes superior name order shelved none p there =
    false_from_ne_true (is_branch superior name (shape (node_at nodes p))) (λ is. (let at = on_some xs p there in
    let hash = order.hashed p there ∙ ap key_hash (branch_key superior name (node_at nodes p) is) in
    let same = sym (shelved.shelved at.0 p at.1) ∙ ap shelf_of hash in
    cc (none p (rw same at at.1))))

-- ---- a place more

module _ (nodes : List Node) (xs : List (List ℕ)) (hashes : List ℕ) (place hash : ℕ)
    (order : IsOrdered nodes (concat xs) hashes) (shelved : AreShelved xs hashes)
    (is : hash ≡ key_hash (key_of (node_at nodes place)))
    (new : (k : ℕ) → k < length (concat xs) → key_at nodes (concat xs) k ≢ key_of (node_at nodes place))
    (at : ℕ) (within : at ≤ length (shelf_at xs (shelf_of hash))) (below : (k : ℕ) → k < at
    → key_cmp (key_at nodes (shelf_at xs (shelf_of hash)) k) (key_of (node_at nodes place)) ≡ Less)
    (from : (k : ℕ) → at ≤ k → k < length (shelf_at xs (shelf_of hash))
    → key_cmp (key_at nodes (shelf_at xs (shelf_of hash)) k) (key_of (node_at nodes place)) ≢ Less) where
  abbrev key : Key
  key = key_of (node_at nodes place)

  abbrev mine : ℕ
  mine = shelf_of hash

  -- the hash of what stands on a shelf
  hash_on : (l m : ℕ) → l < length (shelf_at xs m) → shelf_of (key_hash (key_at nodes (shelf_at xs m) l)) ≡ m
  hash_on l m lt = cc (
    hash_is (shelf_ordered nodes xs hashes order m) l lt,
    shelved.shelved m (get_or (shelf_at xs m) l 0) (record { at = l; within = lt; is = refl }),
  )

  key_all : (k : ℕ) (l : Located xs k) → key_at nodes (concat xs) k ≡ key_at nodes (shelf_at xs l.m) l.j
  key_all k l = cc (key_on nodes xs hashes order l.m l.j l.within)

  below_at : (k : ℕ) → k < before xs mine + at → (l : Located xs k) → (l.m < mine) ⊎ (l.m ≡ mine)
      → key_cmp (key_at nodes (shelf_at xs l.m) l.j) key ≡ Less
  below_at k lt l (inl earlier) = hash_less (key_at nodes (shelf_at xs l.m) l.j) key
      (omega (arith, hash_on l.j l.m l.within))
  below_at k lt l (inr same) = rw same (below l.j (omega (arith, ap (before xs) same)))

  pub all_below : (k : ℕ) → k < before xs mine + at → key_cmp (key_at nodes (concat xs) k) key ≡ Less
  all_below k lt =
      let top : before xs mine + at ≤ length (concat xs) = all_within xs mine at within in
      let l : Located xs k = located xs k (omega arith) in
      rw (key_all k l) (below_at k lt l (elim (cases_order l.m mine) [
        | inl same ↦ inr same
        | inr differ ↦ elim differ [
          | inl earlier ↦ inl earlier
          | inr later ↦ absurd (omega (arith, before_later xs mine l.m later))
        ]
      ]))

  above_at : (k : ℕ) → before xs mine + at ≤ k → k < length (concat xs) → (l : Located xs k)
      → (l.m ≡ mine) ⊎ (mine < l.m) → key_cmp key (key_at nodes (shelf_at xs l.m) l.j) ≡ Less
  above_at k le lt l (inr later) = hash_less key (key_at nodes (shelf_at xs l.m) l.j)
      (omega (arith, hash_on l.j l.m l.within))
  above_at k le lt l (inl same) =
      after_other (key_at nodes (shelf_at xs l.m) l.j) key
      (rw same (from l.j (omega (arith, ap (before xs) same)) (rw same at l.within))) (λ e. new k lt (key_all k l ∙ e))

  pub all_above : (k : ℕ) → before xs mine + at ≤ k → k < length (concat xs)
      → key_cmp key (key_at nodes (concat xs) k) ≡ Less
  all_above k le lt =
      let l : Located xs k = located xs k lt in
      rw (key_all k l) (above_at k le lt l (elim (cases_order l.m mine) [
        | inl same ↦ inl same
        | inr differ ↦ elim differ [
          | inl earlier ↦ absurd (omega (arith, before_later xs l.m mine earlier))
          | inr later ↦ inr later
        ]
      ]))

  abbrev more : List (List ℕ)
  more = set xs mine (insert (shelf_at xs mine) at place)

  other_place : (p : ℕ) → HasPlace (concat xs) p → p ≢ place
  other_place p there e = new there.at there.within (cc)

  module _ (bound : shelf_of hash < 64) (slot : place < length hashes) where
    on_one : mine < length xs
    on_one = (omega arith)

    pub ordered_shelved : IsOrdered nodes (concat more) (set hashes place hash)
    ordered_shelved = rw (concat_insert xs mine at place on_one within)
        (ordered_more nodes (concat xs) hashes (before xs mine + at) place hash (all_within xs mine at within) order
        (inserted_sorted (concat xs) (before xs mine + at) place (all_within xs mine at within) nodes order.sorted
        all_below all_above) slot is new)

    pub place_shelved : (p : ℕ) → HasPlace (concat more) p ↔ (HasPlace (concat xs) p ⊎ (p ≡ place))
    place_shelved = rw (concat_insert xs mine at place on_one within)
        (place_inserted (concat xs) (before xs mine + at) place (all_within xs mine at within))

    pub count_shelved : length (concat more) ≡ length (concat xs) + 1
    count_shelved = ap length (concat_insert xs mine at place on_one within)
        ∙ length-insert (concat xs) (before xs mine + at) place (all_within xs mine at within)

    still_shelved : (m p : ℕ) → HasPlace (shelf_at xs m) p → shelf_of (get_or (set hashes place hash) p 0) ≡ m
    still_shelved m p there = cc (
      get_or-set_other hashes place p hash 0 (other_place p (shelf_of_all xs m p there)),
      shelved.shelved m p there,
    )

    pub are_shelved : AreShelved more (set hashes place hash)
    are_shelved = record {
      count = cc (length-set xs mine (insert (shelf_at xs mine) at place));
      shelved = λ m p there. elim (cases_eq m mine) [
        | inl same ↦
            (let on = rw (same, get_or-set_same xs mine (insert (shelf_at xs mine) at place) [] on_one) at there in
            elim ((place_inserted (shelf_at xs mine) at place within p).0 on) [
              | inl old ↦ still_shelved mine p old ∙ sym same
              | inr e ↦ rw e (cc (get_or-set_same hashes place hash 0 slot))
            ])
        | inr other ↦
            still_shelved m p (rw (get_or-set_other xs mine m (insert (shelf_at xs mine) at place) [] other) at there)
      ];
    }

-- ---- a place less

module _ (nodes : List Node) (xs : List (List ℕ)) (hashes : List ℕ) (order : IsOrdered nodes (concat xs) hashes)
    (shelved : AreShelved xs hashes) (m at : ℕ) (within : at < length (shelf_at xs m)) where
  abbrev less : List (List ℕ)
  less = set xs m (remove (shelf_at xs m) at)

  pub ordered_left : IsOrdered nodes (concat less) hashes
  ordered_left = rw (concat_remove xs m at within)
      (ordered_less nodes (concat xs) hashes (before xs m + at) (on_shelf xs m at within).0 order)

  pub place_left : (place p : ℕ) → get_or (shelf_at xs m) at 0 ≡ place
      → HasPlace (concat less) p ↔ (HasPlace (concat xs) p × (p ≢ place))
  place_left place p is = rw (concat_remove xs m at within)
      (place_removed nodes (concat xs) (before xs m + at) (on_shelf xs m at within).0 order.sorted place p
      ((on_shelf xs m at within).1 ∙ is))

  pub count_left : length (concat less) + 1 ≡ length (concat xs)
  count_left = rw (concat_remove xs m at within) (fewer (concat xs) (before xs m + at) (on_shelf xs m at within).0)

  pub are_left : AreShelved less hashes
  are_left = record {
    count = cc (length-set xs m (remove (shelf_at xs m) at));
    shelved = λ n p there. elim (cases_eq n m) [
      | inl same ↦
          (let on = rw (
            same,
            get_or-set_same xs m (remove (shelf_at xs m) at) [] (shelf_there xs m at within),
          ) at there in
          shelved.shelved m p ((place_removed nodes (shelf_at xs m) at within
          (shelf_ordered nodes xs hashes order m).sorted (get_or (shelf_at xs m) at 0) p refl).0 on).0 ∙ sym same)
      | inr other ↦ shelved.shelved n p (rw (get_or-set_other xs m n (remove (shelf_at xs m) at) [] other) at there)
    ];
  }

-- ---- both, as the index does them

pub record Inserted (nodes : List Node) (old new : List (List ℕ)) (hashes hashes' : List ℕ) (place : ℕ) : Type 0 where
  pub order : IsOrdered nodes (concat new) hashes'
  pub places : (p : ℕ) → HasPlace (concat new) p ↔ (HasPlace (concat old) p ⊎ (p ≡ place))
  pub count : length (concat new) ≡ length (concat old) + 1
  pub shelved : AreShelved new hashes'

pub inserted : {nodes : List Node} {xs : List (List ℕ)} {hashes : List ℕ} {place hash m : ℕ} (at : ℕ)
    {ps on : List ℕ} {key : Key} → IsOrdered nodes (concat xs) hashes → AreShelved xs hashes → hash ≡ key_hash key
    → key ≡ key_of (node_at nodes place)
    → ((k : ℕ) → k < length (concat xs) → key_at nodes (concat xs) k ≢ key_of (node_at nodes place))
    → m ≡ shelf_of hash → m < 64 → ps ≡ shelf_at xs m → at ≤ length ps
    → ((k : ℕ) → k < at → key_cmp (key_at nodes ps k) key ≡ Less)
    → ((k : ℕ) → at ≤ k → k < length ps → key_cmp (key_at nodes ps k) key ≢ Less)
    → place < length hashes → on ≡ insert (shelf_at xs m) at place
    → Inserted nodes xs (set xs m on) hashes (set hashes place hash) place
inserted {nodes} {xs} {hashes} {place} {hash} at {ps = ps} order shelved is own new e bound shelf within below from
    slot put =
    let same : ps ≡ shelf_at xs (shelf_of hash) = shelf ∙ ap (shelf_at xs) e in
    let le = rw same at within in
    let less = rw (same, own) at below in
    let more = rw (same, own) at from in
    let hashed : hash ≡ key_hash (key_of (node_at nodes place)) = is ∙ ap key_hash own in
    let few : shelf_of hash < 64 = rw (← e) bound in
    rw (put, e) (assumption (
      ordered_shelved nodes xs hashes place hash order shelved hashed new at le less more few slot,
      place_shelved nodes xs hashes place hash order shelved hashed new at le less more few slot,
      count_shelved nodes xs hashes place hash order shelved hashed new at le less more few slot,
      are_shelved nodes xs hashes place hash order shelved hashed new at le less more few slot,
    ))

pub record Removed (nodes : List Node) (old new : List (List ℕ)) (hashes : List ℕ) (place : ℕ) : Type 0 where
  pub order : IsOrdered nodes (concat new) hashes
  pub places : (p : ℕ) → HasPlace (concat new) p ↔ (HasPlace (concat old) p × (p ≢ place))
  pub count : length (concat new) + 1 ≡ length (concat old)
  pub shelved : AreShelved new hashes

pub removed : {nodes : List Node} {xs : List (List ℕ)} {hashes : List ℕ} {place : ℕ} (m at : ℕ) {ps on : List ℕ}
    → IsOrdered nodes (concat xs) hashes → AreShelved xs hashes → ps ≡ shelf_at xs m → at < length ps
    → get_or ps at 0 ≡ place → on ≡ remove (shelf_at xs m) at → Removed nodes xs (set xs m on) hashes place
removed {nodes} {xs} {hashes} {place} m at order shelved shelf within is put =
    let lt = rw shelf at within in
    rw put (record {
      order = ordered_left nodes xs hashes order shelved m at lt;
      places = λ p. place_left nodes xs hashes order shelved m at lt place p (rw shelf at is);
      count = count_left nodes xs hashes order shelved m at lt;
      shelved = are_left nodes xs hashes order shelved m at lt;
    })

-- a shelf that is read
pub shelf_read : {xs : List (List ℕ)} {hashes : List ℕ} (m : ℕ) {x : List ℕ} → AreShelved xs hashes → m < 64
    → x ≡ get_or xs m x → x ≡ shelf_at xs m
shelf_read {xs} m {x} shelved lt read = get_or_read xs m x (omega arith) read []

-- the place of a branch stands on the shelf of its hash
pub on_own : {xs : List (List ℕ)} {hashes : List ℕ} {place m : ℕ} → AreShelved xs hashes → HasPlace (concat xs) place
    → m ≡ shelf_of (get_or hashes place 0) → HasPlace (shelf_at xs m) place
on_own {xs} {place = place} shelved there e =
    let at = on_some xs place there in
    rw (e ∙ shelved.shelved at.0 place at.1) at.1

-- what a search on a shelf finds
pub found_all : (xs : List (List ℕ)) (m : ℕ) (r : Option ℕ) (B : ℕ → Type 0)
    → IfSome r (λ p. HasPlace (shelf_at xs m) p × B p) → IfSome r (λ p. HasPlace (concat xs) p × B p)
found_all xs m (Some p) B found = (shelf_of_all xs m p found.0, found.1)
found_all xs m None B found = tt

pub none_then : (r : Option ℕ) (A B : Type 0) → IfNone r A → (A → B) → IfNone r B
none_then (Some p) A B none then = tt
none_then None A B none then = then none

-- empty shelves
pub none_shelved : (xs : List (List ℕ)) (hashes : List ℕ) → length xs ≡ 64 → ((m : ℕ) → shelf_at xs m ≡ [])
    → AreShelved xs hashes
none_shelved xs hashes count empty = grind (arith, nat_tests, common_steps)

pub none_placed : (xs : List (List ℕ)) → ((m : ℕ) → shelf_at xs m ≡ []) → concat xs ≡ []
none_placed [] empty = refl
none_placed (x ∷ xs) empty = rw (empty 0, none_placed xs (λ m. empty (suc m))) refl
