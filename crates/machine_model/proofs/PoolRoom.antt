-- A pool with a free place has room: fewer segments of its nodes are active than it has places.
use Rattle.machine_model.proofs.Basics.{◌≡◌, ◌<◌, ◌≤◌, ℕ, zero, suc, ◌+◌, ◌-◌, Bool, true, false, ◌&&◌, ◌||◌, cond, eqb, count_by, is_some, is_none, List, [], ◌∷◌, length, Option, Some, None, inl, inr, refl, sym, ap, subst, ◌∙◌, arith, list_any, range_with_len, eqb_tells, sum_by-cons, Node, pool_of, AreBelow, IsTree, Joins, IsMember, found_member, ActiveSegs, entry_at, uid_in, IsInPool, first_of, size_of, is_for, place_of, free_place, is_active, places_in, Active as Entry, false_from_ne_true, find_passes, or_true, and_parts, is_for_same}
use Rattle.machine_model.proofs.ActiveSeen.{active_place}

-- ---- counts

abbrev tally : Bool → ℕ
tally b = cond b 1 0

count_cons : {A : Type 0} (test : A → Bool) (x : A) (xs : List A)
    → count_by test (x ∷ xs) ≡ tally (test x) + count_by test xs
count_cons test x xs = sum_by-cons (λ y. tally (test y)) x xs

tally_less : (a b : Bool) → (a ≡ true → b ≡ true) → tally a ≤ tally b
tally_less true b h = omega (arith, ap tally (h refl))
tally_less false b h = omega arith

-- a test that passes more often counts more
count_more : (old now : ℕ → Bool) (xs : List ℕ) → ((x : ℕ) → old x ≡ true → now x ≡ true)
    → count_by old xs ≤ count_by now xs
count_more old now [] h = omega arith
count_more old now (x ∷ xs) h = omega (
  arith,
  count_more old now xs h,
  tally_less (old x) (now x) (h x),
  count_cons old x xs,
  count_cons now x xs,
)

-- and one more where it passes once more
pub count_new : (old now : ℕ → Bool) (xs : List ℕ) (y : ℕ) → ((x : ℕ) → old x ≡ true → now x ≡ true) → IsMember y xs
    → old y ≡ false → now y ≡ true → count_by old xs + 1 ≤ count_by now xs
count_new old now [] y h m was is = absurd m
count_new old now (x ∷ xs) y h (inl e) was is = omega (
  arith,
  count_more old now xs h,
  count_cons old x xs,
  count_cons now x xs,
  ap tally (ap old (sym e) ∙ was),
  ap tally (ap now (sym e) ∙ is),
)
count_new old now (x ∷ xs) y h (inr m) was is = omega (
  arith,
  count_new old now xs y h m was is,
  tally_less (old x) (now x) (h x),
  count_cons old x xs,
  count_cons now x xs,
)

pub count_all : (test : ℕ → Bool) (xs : List ℕ) → count_by test xs ≤ length xs
count_all test [] = omega arith
count_all test (x ∷ xs) = let a = count_cons test x xs in
    let few = few (test x) in omega (arith, (count_all test xs), a, few)
  where
    few : (b : Bool) → tally b ≤ 1
    few true = omega arith
    few false = omega arith

-- ---- places

pub range_length : (from n : ℕ) → length (range_with_len from n) ≡ n
range_length from zero = refl
range_length from (suc n) = omega (arith, range_length (from + 1) n)

pub range_has : (from n x : ℕ) → from ≤ x → x < from + n → IsMember x (range_with_len from n)
range_has from zero x a b = absurd (omega arith)
range_has from (suc n) x a b = elim (eqb_tells x from) [
  | inl e ↦ inl e.1
  | inr m ↦ (let other = m.1 in inr (range_has (from + 1) n x (omega arith) (omega arith)))
]

module _ (ast : ActiveSegs) (pool : ℕ) where
  abbrev places : List ℕ
  places = places_in ast pool

  places_count : length places ≡ size_of ast.sizes pool
  places_count = omega (
    arith,
    range_length (first_of ast.sizes pool) (first_of ast.sizes pool + size_of ast.sizes pool - first_of ast.sizes pool),
  )

  place_in : {q : ℕ} → IsInPool ast.sizes pool q → IsMember q places
  place_in {q} h = let to = h.to in range_has (first_of ast.sizes pool) _ q h.from (omega arith)

  -- ---- nodes

  -- the segment of a node is active, and of this pool
  abbrev pub is_its : Node → Bool
  is_its n = is_active ast n.uid && eqb (pool_of n) pool

  -- whether a place has the segment of one of some nodes
  abbrev has_its : List Node → ℕ → Bool
  has_its ns q = list_any (λ n. is_its n && is_for n.uid (entry_at ast.entries q)) ns

  is_at : (u : ℕ) (o : Option Entry) → uid_in o ≡ Some u → is_for u o ≡ true
  is_at u None h = cc
  is_at u (Some e) h = elim (eqb_tells e.uid u) [ inl x ↦ x.0 | inr n ↦ absurd (n.1 (cc)) ]

  -- a node that is older has another segment
  not_older : (u : ℕ) (ns : List Node) (q : ℕ) → AreBelow u ns → is_for u (entry_at ast.entries q) ≡ true
      → has_its ns q ≡ false
  not_older u [] q below h = refl
  not_older u (n ∷ ns) q below h = by (is_its n && is_for n.uid (entry_at ast.entries q)) refl
      (not_older u ns q below.1 h)
    where
      by : (b : Bool) → (is_its n && is_for n.uid (entry_at ast.entries q)) ≡ b → has_its ns q ≡ false
          → (b || has_its ns q) ≡ false
      by false e rest = rest
      by true e rest = let same = is_for_same n.uid u (entry_at ast.entries q)
          (and_parts (is_its n) (is_for n.uid (entry_at ast.entries q)) e).1 h in absurd (omega (arith, below.0))

  joined_below : (ns : List Node) (o : Option ℕ) (n : Node) → Joins ns o n → AreBelow n.uid ns
  joined_below ns None n j = subst (AreBelow n.uid) (sym j.first) tt
  joined_below ns (Some s) n j = j.later

  -- the nodes whose segments are active there are as many as places at most
  few_nodes : (ns : List Node) → IsTree ns → ((n : Node) → IsMember n ns → is_its n ≡ true
      → IsInPool ast.sizes pool (place_of ast.entries n.uid)) → count_by is_its ns ≤ count_by (has_its ns) places
  few_nodes [] t h = omega arith
  few_nodes (n ∷ ns) t h = by (is_its n) refl (few_nodes ns t.1 (λ m member. h m (inr member)))
    where
      more : (q : ℕ) → has_its ns q ≡ true → has_its (n ∷ ns) q ≡ true
      more q e = rw e (or_true (is_its n && is_for n.uid (entry_at ast.entries q)))

      by : (b : Bool) → is_its n ≡ b → count_by is_its ns ≤ count_by (has_its ns) places
          → count_by is_its (n ∷ ns) ≤ count_by (has_its (n ∷ ns)) places
      by false e rest = omega (
        arith,
        count_cons is_its n ns,
        ap tally e,
        count_more (has_its ns) (has_its (n ∷ ns)) places more,
      )
      by true e rest = let one : tally (is_its n) ≡ 1 = ap tally e in
          let all = count_new (has_its ns) (has_its (n ∷ ns)) places (place_of ast.entries n.uid) more
          (place_in (h n (inl refl) e))
          (not_older n.uid ns (place_of ast.entries n.uid) (joined_below ns n.superior n t.0) here)
          (rw (e, here) refl) in omega (arith, (count_cons is_its n ns))
        where
          here : is_for n.uid (entry_at ast.entries (place_of ast.entries n.uid)) ≡ true
          here = is_at n.uid (entry_at ast.entries (place_of ast.entries n.uid))
              (active_place ast n.uid (and_parts (is_active ast n.uid) (eqb (pool_of n) pool) e).0).1

  has_some : (ns : List Node) (q : ℕ) → has_its ns q ≡ true → is_some (entry_at ast.entries q) ≡ true
  has_some [] q h = cc
  has_some (n ∷ ns) q h = by (is_its n && is_for n.uid (entry_at ast.entries q)) refl h (has_some ns q)
    where
      some : (o : Option Entry) → is_for n.uid o ≡ true → is_some o ≡ true
      some None e = cc
      some (Some x) e = refl

      by : (b : Bool) → (is_its n && is_for n.uid (entry_at ast.entries q)) ≡ b → (b || has_its ns q) ≡ true
          → (has_its ns q ≡ true → is_some (entry_at ast.entries q) ≡ true) → is_some (entry_at ast.entries q) ≡ true
      by true e i rest = some (entry_at ast.entries q)
          (and_parts (is_its n) (is_for n.uid (entry_at ast.entries q)) e).1
      by false e i rest = rest i

  -- where a place is free there is room
  pub has_room : (ns : List Node) (place : ℕ) → IsTree ns → free_place ast pool ≡ Some place
      → ((n : Node) → IsMember n ns → is_its n ≡ true → IsInPool ast.sizes pool (place_of ast.entries n.uid))
      → count_by is_its ns < size_of ast.sizes pool
  has_room ns place t free pools = let less = count_new (has_its ns) (λ q. true) places place (λ q e. refl)
      (found_member (λ q. is_none (entry_at ast.entries q)) places place free) none refl in
      let all = count_all (λ q. true) places in omega (arith, (few_nodes ns t pools), less, all, places_count)
    where
      none : has_its ns place ≡ false
      none = false_from_ne_true (has_its ns place) (λ e. not_both (entry_at ast.entries place)
          (find_passes (λ q. is_none (entry_at ast.entries q)) places place free) (has_some ns place e))
        where
          not_both : (o : Option Entry) → is_none o ≡ true → is_some o ≡ true → ⊥
          not_both None a b = let off = b in cc
          not_both (Some e) a b = let off = a in cc
