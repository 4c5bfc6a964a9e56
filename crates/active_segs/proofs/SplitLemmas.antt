-- What the lists of an index say together: a uid is in the one of its remainder.
pub use Rattle.active_segs.proofs.Prelude.{Bool, IsSplit, List, None, Option, Pairs, SetsPlace, Some, [], ap, arith, cond, empty_list, eqb, eqb_tells, false, get_or, get_or-replicate, get_or-set_other, get_or-set_same, get_or_read, inl, inr, length, length-flat_map, length-replicate, length-set, list_at, mod-lt, pairs_in, place_of, refl, replicate, set, subst, suc, sum_by-set, sym, true, zero, ℕ, ◌%◌, ◌++◌, ◌+◌, ◌<◌, ◌∙◌, ◌∷◌, ◌≡◌, ◌≢◌, ◌≤◌, ◌⊎◌}

place_past : (xs ys : List (ℕ × ℕ)) (u : ℕ) → place_of xs u ≡ None → place_of (xs ++ ys) u ≡ place_of ys u
place_past [] ys u none = refl
place_past (x ∷ xs) ys u none = by (eqb x.0 u) none (place_past xs ys u)
  where
    by : (b : Bool) → cond b (Some x.1) (place_of xs u) ≡ None → (place_of xs u ≡ None
        → place_of (xs ++ ys) u ≡ place_of ys u) → cond b (Some x.1) (place_of (xs ++ ys) u) ≡ place_of ys u
    by true e rest = absurd (let no : Some x.1 ≡ None = e in cc)
    by false e rest = rest e

place_front : (xs ys : List (ℕ × ℕ)) (u : ℕ) → place_of ys u ≡ None → place_of (xs ++ ys) u ≡ place_of xs u
place_front [] ys u none = none
place_front (x ∷ xs) ys u none = ap (cond (eqb x.0 u) (Some x.1)) (place_front xs ys u none)

-- no list but one has the uid
abbrev NotIn : List Pairs → ℕ → Type 0
NotIn lists u = (k : ℕ) → k < length lists → place_of (list_at lists k).pairs u ≡ None

place_nowhere : (lists : List Pairs) (u : ℕ) → NotIn lists u → place_of (pairs_in lists) u ≡ None
place_nowhere [] u none = refl
place_nowhere (l ∷ ls) u none = place_past l.pairs (pairs_in ls) u (none 0 (omega arith))
    ∙ place_nowhere ls u (λ k lt. none (suc k) (omega (arith, lt)))

place_in : (lists : List Pairs) (u i : ℕ) → i < length lists → ((k : ℕ) → k < length lists → k ≢ i
    → place_of (list_at lists k).pairs u ≡ None) → place_of (pairs_in lists) u ≡ place_of (list_at lists i).pairs u
place_in [] u i lt none = absurd (omega (arith, lt))
place_in (l ∷ ls) u zero lt none = place_front l.pairs (pairs_in ls) u
    (place_nowhere ls u (λ k less. none (suc k) (omega (arith, less)) (λ e. omega (arith, e))))
place_in (l ∷ ls) u (suc i) lt none = place_past l.pairs (pairs_in ls) u (none 0 (omega arith) (λ e. omega (arith, e)))
    ∙ place_in ls u i (omega (arith, lt)) (λ k less ne. none (suc k) (omega (arith, less)) (λ e. ne (omega (arith, e))))

remainder : (u : ℕ) → u % 256 < 256
remainder u = mod-lt u (omega arith)

pub place_split : {lists : List Pairs} {room : ℕ} (u : ℕ) → IsSplit lists room
    → place_of (pairs_in lists) u ≡ place_of (list_at lists (u % 256)).pairs u
place_split {lists} u split = let many = split.many in let less = remainder u in
    place_in lists u (u % 256) (omega (arith, many, less)) (λ k lt ne. split.apart k u (omega (arith, many, lt)) ne)

-- a list holds no more than all together
pub list_few : (lists : List Pairs) (i : ℕ) → i < length lists
    → length (list_at lists i).pairs ≤ length (pairs_in lists)
list_few lists i lt =
    let all = length-flat_map (λ (l : Pairs). l.pairs) lists in
    let parts = sum_by-set (λ (l : Pairs). length l.pairs) lists i (empty_list 0) (empty_list 0) lt in
    omega (arith, all, parts)

module _ (lists : List Pairs) (room u : ℕ) (split : IsSplit lists room) (new : Pairs) where
  abbrev i : ℕ
  i = u % 256

  abbrev changed : List Pairs
  changed = set lists i new

  here : i < length lists
  here = let many = split.many in let less = remainder u in omega (arith, many, less)

  same_list : list_at changed i ≡ new
  same_list = get_or-set_same lists i new (empty_list 0) here

  other_list : (k : ℕ) → k ≢ i → list_at changed k ≡ list_at lists k
  other_list k ne = get_or-set_other lists i k new (empty_list 0) ne

  module _ (place : Option ℕ) (sets : SetsPlace (list_at lists i).pairs new.pairs u place)
      (keeps : new.room ≡ (list_at lists i).room) where
    -- a uid of another remainder isn't in the changed list
    not_here : (q : ℕ) → i ≢ q % 256 → place_of new.pairs q ≡ None
    not_here q ne = sets q ∙ by (eqb_tells u q)
      where
        by : ((eqb u q ≡ true) × (u ≡ q)) ⊎ ((eqb u q ≡ false) × (u ≢ q))
            → cond (eqb u q) place (place_of (list_at lists i).pairs q) ≡ None
        by (inl e) = absurd (ne (ap (λ (x : ℕ). x % 256) e.1))
        by (inr n) = rw n.0 (split.apart i q (remainder u) ne)

    pub split_changed : IsSplit changed room
    split_changed = record {
      many = length-set lists i new ∙ split.many;
      rooms = λ k lt. elim (eqb_tells k i) [
        | inl e ↦ rw e.1 (ap (λ (l : Pairs). l.room) same_list ∙ (keeps ∙ split.rooms i (remainder u)))
        | inr n ↦ rw (other_list k n.1) (split.rooms k lt)
      ];
      apart = λ k q lt ne. elim (eqb_tells k i) [
        | inl e ↦ rw e.1 (ap (λ (l : Pairs). place_of l.pairs q) same_list ∙ not_here q (λ is. ne (e.1 ∙ is)))
        | inr n ↦ rw (other_list k n.1) (split.apart k q lt ne)
      ];
    }

    pub sets_changed : SetsPlace (pairs_in lists) (pairs_in changed) u place
    sets_changed q = place_split q split_changed ∙ elim (eqb_tells (q % 256) i) [
      | inl e ↦ rw (e.1, same_list) (sets q ∙ ap (λ (x : ℕ). cond (eqb u q) place (place_of (list_at lists x).pairs q))
          (sym e.1) ∙ ap (cond (eqb u q) place) (sym (place_split q split)))
      | inr n ↦ rw (other_list (q % 256) n.1) (sym (place_split q split)
          ∙ ap (λ (b : Bool). cond b place (place_of (pairs_in lists) q)) (sym (differs q n.1)))
    ]
      where
        differs : (q : ℕ) → q % 256 ≢ i → eqb u q ≡ false
        differs q ne = elim (eqb_tells u q) [
          | inl e ↦ absurd (ne (ap (λ (x : ℕ). x % 256) (sym e.1)))
          | inr n ↦ n.0
        ]

  pub count_changed : length (pairs_in changed) + length (list_at lists i).pairs
      ≡ length (pairs_in lists) + length new.pairs
  count_changed =
      let after = length-flat_map (λ (l : Pairs). l.pairs) changed in
      let before = length-flat_map (λ (l : Pairs). l.pairs) lists in
      let parts = sum_by-set (λ (l : Pairs). length l.pairs) lists i new (empty_list 0) here in
      omega (arith, after, before, parts)

-- ---- at first

nothing_in : (n room : ℕ) → pairs_in (replicate n (empty_list room)) ≡ []
nothing_in zero room = refl
nothing_in (suc n) room = nothing_in n room

pub no_pairs : (lists : List Pairs) (room : ℕ) → lists ≡ replicate 256 (empty_list room) → pairs_in lists ≡ []
no_pairs lists room is = ap pairs_in is ∙ nothing_in 256 room

pub split_first : (lists : List Pairs) (room : ℕ) → lists ≡ replicate 256 (empty_list room) → IsSplit lists room
split_first lists room is = rw is (record {
  many = length-replicate 256 (empty_list room);
  rooms = λ k lt. ap (λ (l : Pairs). l.room) (at k lt);
  apart = λ k u lt ne. ap (λ (l : Pairs). place_of l.pairs u) (at k lt);
})
  where
    at : (k : ℕ) → k < 256 → list_at (replicate 256 (empty_list room)) k ≡ empty_list room
    at k lt = get_or-replicate 256 k (empty_list room) (empty_list 0) lt

-- ---- a list is changed

module _ (lists : List Pairs) (room u : ℕ) (split : IsSplit lists room) (x : Pairs)
    (read : x ≡ get_or lists (u % 256) x) where
  is_list : x ≡ list_at lists (u % 256)
  is_list = get_or_read lists (u % 256) x (here lists room u split x) read (empty_list 0)

  pub finds_list : place_of x.pairs u ≡ place_of (pairs_in lists) u
  finds_list = rw is_list (sym (place_split u split))

  pub list_has_room : length (pairs_in lists) < room → length x.pairs < x.room
  list_has_room less =
      let same = ap (λ (l : Pairs). length l.pairs) is_list in
      let rooms = ap (λ (l : Pairs). l.room) is_list ∙ split.rooms (u % 256) (remainder u) in
      omega (arith, list_few lists (u % 256) (here lists room u split x), same, rooms, less)

  module _ (y : Pairs) where
    abbrev after : List Pairs
    after = set lists (u % 256) y

    pub list_split : (place : Option ℕ) → SetsPlace x.pairs y.pairs u place → y.room ≡ x.room → IsSplit after room
    list_split place sets keeps = split_changed lists room u split y place (rw is_list at sets)
        (keeps ∙ ap (λ (l : Pairs). l.room) is_list)

    pub list_sets : (place : Option ℕ) → SetsPlace x.pairs y.pairs u place → y.room ≡ x.room
        → SetsPlace (pairs_in lists) (pairs_in after) u place
    list_sets place sets keeps = sets_changed lists room u split y place (rw is_list at sets)
        (keeps ∙ ap (λ (l : Pairs). l.room) is_list)

    pub list_more : length y.pairs ≡ length x.pairs + 1 → length (pairs_in after) ≡ length (pairs_in lists) + 1
    list_more more = let all = count_changed lists room u split y in
        let same = ap (λ (l : Pairs). length l.pairs) is_list in omega (arith, all, same, more)

    pub list_less : length y.pairs + 1 ≡ length x.pairs → length (pairs_in after) + 1 ≡ length (pairs_in lists)
    list_less less = let all = count_changed lists room u split y in
        let same = ap (λ (l : Pairs). length l.pairs) is_list in omega (arith, all, same, less)
