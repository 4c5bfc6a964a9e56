-- What the order of keys tells, and what an edit of the index leaves.
use Rattle.dir_tree.proofs.Prelude.{common_steps, ◌≡◌, ◌≢◌, ℕ, ◌+◌, ◌-◌, ◌<◌, ◌≤◌, true, List, length, Option, Some, None, refl, sym, ap, subst, ◌∙◌, arith, get_or, set, inl, inr, ◌⊎◌, ◌↔◌, insert, remove, Ordering, Less, Equal, Greater, nat_cmp, ordering_then, is_eq, option_cmp, IsTotalOrder, slice_cmp, options_total, tied_itself, then_total, on_total, nat_cmp_total, nat_list_cmp_total, ranked, is_eq-slice_cmp, bytes_eq-Decides, cases_lt, cases_eq, cases_order, and_from, get_or_read, get_or-set_same, get_or-set_other, length-set, length-insert, get_or-insert_below, get_or-insert_at, get_or-insert_above, get_or-remove_below, get_or-remove_above, is_branch, Node, shape, Key, HasPlace, IsSorted, IsOrdered, no_node, node_at, key_of, key_at, key_cmp, key_hash, hash_at, AreRising, lies, is_below, Where, Before, Here, After, where_is, before, nat_tests}
use Rattle.dir_tree.proofs.EditLemmas.{was, was_other, was_up, at_was, fewer, was_within}

-- ---- the order of keys

key_total : IsTotalOrder key_cmp
unfolding key_cmp
key_total = then_total (then_total (on_total key_hash nat_cmp_total)
    (on_total (λ (k : Key). k.0) (options_total nat_cmp_total))) (on_total (λ (k : Key). k.1) nat_list_cmp_total)

-- no key is before itself
pub not_itself : (x y : Key) → x ≡ y → key_cmp x y ≢ Less
not_itself x y same is = (let tied : key_cmp x x ≡ Equal = tied_itself key_total x in
    let less : key_cmp x x ≡ Less = subst (λ (k : Key). key_cmp x k ≡ Less) (sym same) is in cc)

-- nor after itself
pub not_after : (x y : Key) → x ≡ y → key_cmp x y ≢ Greater
not_after x y same is = (let more : key_cmp x x ≡ Greater = subst (λ (k : Key). key_cmp x k ≡ Greater) (sym same) is in
    let clash : Equal ≡ Greater = sym (tied_itself key_total x) ∙ more in cc)

pub less_through : (x y z : Key) → key_cmp x y ≡ Less → key_cmp y z ≡ Less → key_cmp x z ≡ Less
less_through = key_total.trans

superiors_tied : (a b : Option ℕ) → option_cmp nat_cmp a b ≡ Equal → a ≡ b
superiors_tied None None e = refl
superiors_tied None (Some y) e = cc
superiors_tied (Some x) None e = cc
superiors_tied (Some x) (Some y) e = grind (arith, nat_tests, common_steps, ranked)

names_tied : (a b : List ℕ) → slice_cmp nat_cmp a b ≡ Equal → a ≡ b
names_tied a b e = (bytes_eq-Decides a b).0 (sym (is_eq-slice_cmp a b) ∙ ap is_eq e)

then_tied : (o p : Ordering) → ordering_then o p ≡ Equal → (o ≡ Equal) × (p ≡ Equal)
then_tied Less p e = cc
then_tied Equal p e = (refl, e)
then_tied Greater p e = cc

-- keys that are neither before nor after one another are the same
pub tied_same : (x y : Key) → key_cmp x y ≡ Equal → x ≡ y
unfolding key_cmp
tied_same x y e =
    let both = then_tied (ordering_then (nat_cmp (key_hash x) (key_hash y)) (option_cmp nat_cmp x.0 y.0))
    (slice_cmp nat_cmp x.1 y.1) e in
    let front = then_tied (nat_cmp (key_hash x) (key_hash y)) (option_cmp nat_cmp x.0 y.0) both.0 in
    λ i. ((superiors_tied x.0 y.0 front.1) i, (names_tied x.1 y.1 both.1) i)

after_by : (x y : Key) (o p : Ordering) → key_cmp x y ≡ o → key_cmp y x ≡ p → o ≢ Less → x ≢ y → p ≡ Less
after_by x y Less p eo ep isnt other = absurd (isnt refl)
after_by x y Equal p eo ep isnt other = absurd (other (tied_same x y eo))
after_by x y Greater p eo ep isnt other = (let back = key_total.antisymm y x in sym ep ∙ back ∙ rw eo refl)

-- a key that isn't before another one, and isn't it, is after it
pub after_other : (x y : Key) → key_cmp x y ≢ Less → x ≢ y → key_cmp y x ≡ Less
after_other x y isnt other = after_by x y (key_cmp x y) (key_cmp y x) refl refl isnt other

pub branch_key : (d : ℕ) (name : List ℕ) (n : Node) → is_branch d name (shape n) ≡ true → key_of n ≡ (Some d, name)
branch_key d name n is = (let h : (n.superior ≡ Some d) × (n.name ≡ name) = lies d name (shape n) is in cc)

pub key_branch : (d : ℕ) (name : List ℕ) (n : Node) → key_of n ≡ (Some d, name) → is_branch d name (shape n) ≡ true
key_branch d name n e = grind (arith, nat_tests, common_steps, and_from, is_below, bytes_eq-Decides)

-- ---- one place more

module _ (ps : List ℕ) (i place : ℕ) (within : i ≤ length ps) where
  abbrev longer : List ℕ
  longer = insert ps i place

  at_before : (k : ℕ) → k < i → get_or longer k 0 ≡ get_or ps k 0
  at_before k lt = get_or-insert_below ps i place 0 k lt within

  at_here : get_or longer i 0 ≡ place
  at_here = get_or-insert_at ps i place 0 within

  at_after : (k j : ℕ) → k ≡ j + 1 → i ≤ j → get_or longer k 0 ≡ get_or ps j 0
  at_after k j e le = rw e (get_or-insert_above ps i place 0 j le within)

  size : length longer ≡ length ps + 1
  size = length-insert ps i place within

  old_or_new : (p k : ℕ) → k < length longer → get_or longer k 0 ≡ p → Where k i → HasPlace ps p ⊎ (p ≡ place)
  old_or_new p k lt e (Before before) = inl (record { at = k; within = omega arith; is = sym (at_before k before) ∙ e })
  old_or_new p k lt e (Here same) = inr (cc (e, same, at_here))
  old_or_new p k lt e (After j is le) = (let n : length longer ≡ length ps + 1 = size in
      inl (record { at = j; within = omega arith; is = sym (at_after k j is le) ∙ e }))

  still_there : (p : ℕ) → HasPlace ps p → HasPlace longer p
  still_there p x =
      elim (cases_lt x.at i) [
        | inl before ↦ record { at = x.at; within = omega (arith, size); is = at_before x.at before ∙ x.is }
        | inr after ↦ record {
          at = x.at + 1;
          within = omega (arith, size);
          is = at_after (x.at + 1) x.at refl after ∙ x.is;
        }
      ]

  pub place_inserted : (p : ℕ) → HasPlace (insert ps i place) p ↔ (HasPlace ps p ⊎ (p ≡ place))
  place_inserted p = (
    λ x. old_or_new p x.at x.within x.is (where_is x.at i),
    λ o. elim o [
      | inl x ↦ still_there p x
      | inr e ↦ (let n = size in record { at = i; within = omega arith; is = at_here ∙ sym e })
    ],
  )

  module _ (nodes : List Node) (sorted : IsSorted nodes ps)
      (below : (k : ℕ) → k < i → key_cmp (key_at nodes ps k) (key_of (node_at nodes place)) ≡ Less)
      (above : (k : ℕ) → i ≤ k → k < length ps → key_cmp (key_of (node_at nodes place)) (key_at nodes ps k) ≡ Less)
    where
      sorted_at : (a b : ℕ) → a < b → b < length longer → Where a i → Where b i
          → key_cmp (key_at nodes longer a) (key_at nodes longer b) ≡ Less
      sorted_at a b lt w (Before x) (Before y) = rw (at_before a x, at_before b y) (sorted a b lt (omega arith))
      sorted_at a b lt w (Before x) (Here y) = rw (at_before a x, y, at_here) (below a x)
      sorted_at a b lt w (Before x) (After j e g) = rw (at_before a x, at_after b j e g)
          (let n = size in sorted a j (omega arith) (omega arith))
      sorted_at a b lt w (Here x) (Before y) = absurd (omega arith)
      sorted_at a b lt w (Here x) (Here y) = absurd (omega arith)
      sorted_at a b lt w (Here x) (After j e g) = rw (x, at_here, at_after b j e g) (above j g (omega (arith, size)))
      sorted_at a b lt w (After i' d f) (Before y) = absurd (omega arith)
      sorted_at a b lt w (After i' d f) (Here y) = absurd (omega arith)
      sorted_at a b lt w (After i' d f) (After j e g) = rw (at_after a i' d f, at_after b j e g)
          (let n = size in sorted i' j (omega arith) (omega arith))

      pub inserted_sorted : IsSorted nodes (insert ps i place)
      inserted_sorted a b lt w = sorted_at a b lt w (where_is a i) (where_is b i)

-- the hash of the new branch stands in the slot of its place, and the others are as before
pub ordered_more : (nodes : List Node) (ps hashes : List ℕ) (i place hash : ℕ) → i ≤ length ps
    → IsOrdered nodes ps hashes → IsSorted nodes (insert ps i place) → place < length hashes
    → hash ≡ key_hash (key_of (node_at nodes place))
    → ((k : ℕ) → k < length ps → key_at nodes ps k ≢ key_of (node_at nodes place))
    → IsOrdered nodes (insert ps i place) (set hashes place hash)
ordered_more nodes ps hashes i place hash within order sorted slot is new = record {
  sorted = sorted;
  hashed = λ p there. elim ((place_inserted ps i place within p).0 there) [
    | inl old ↦
        (let other : p ≢ place = λ e. new old.at old.within (cc) in
        get_or-set_other hashes place p hash 0 other ∙ order.hashed p old)
    | inr same ↦ rw same (get_or-set_same hashes place hash 0 slot ∙ is)
  ];
  slots = λ p there. rw (length-set hashes place hash) (elim ((place_inserted ps i place within p).0 there)
      [ inl old ↦ order.slots p old | inr same ↦ rw same slot ]);
}

-- ---- one place less

module _ (nodes : List Node) (ps : List ℕ) (i : ℕ) (within : i < length ps) (sorted : IsSorted nodes ps) where
  abbrev shorter : List ℕ
  shorter = remove ps i

  pub removed_sorted : IsSorted nodes (remove ps i)
  removed_sorted a b lt w = rw (at_was ps i within a 0, at_was ps i within b 0)
      (sorted (was i a) (was i b) (was_up i a b lt) (was_within ps i within b w))

  apart : (a b : ℕ) → a < b → b < length ps → get_or ps a 0 ≢ get_or ps b 0
  apart a b lt w e = not_itself (key_at nodes ps a) (key_at nodes ps b) (cc) (sorted a b lt w)

  still_left : (p : ℕ) → HasPlace ps p → p ≢ get_or ps i 0 → HasPlace shorter p
  still_left p x ne =
      let n = fewer ps i within in
      let other : x.at ≢ i = λ e. ne (cc) in
      elim (cases_lt x.at i) [
        | inl before ↦ record {
          at = x.at;
          within = omega arith;
          is = get_or-remove_below ps i 0 x.at before within ∙ x.is;
        }
        | inr after ↦
            (let same : x.at - 1 + 1 ≡ x.at = omega arith in
            let e : get_or shorter (x.at - 1) 0 ≡ get_or ps x.at 0 =
            rw same at (get_or-remove_above ps i 0 (x.at - 1) (omega arith) within) in
            record { at = x.at - 1; within = omega arith; is = e ∙ x.is })
      ]

  no_longer : (k : ℕ) → k < length shorter → get_or shorter k 0 ≢ get_or ps i 0
  no_longer k lt e = grind (arith, nat_tests, common_steps, at_was, was_other, apart, was_within)

  pub place_removed : (place p : ℕ) → get_or ps i 0 ≡ place → HasPlace (remove ps i) p ↔ (HasPlace ps p × (p ≢ place))
  place_removed place p is = grind (arith, nat_tests, common_steps, was_within, at_was, no_longer, still_left)

pub ordered_less : (nodes : List Node) (ps hashes : List ℕ) (i : ℕ) → i < length ps → IsOrdered nodes ps hashes
    → IsOrdered nodes (remove ps i) hashes
ordered_less nodes ps hashes i within order = record {
  sorted = removed_sorted nodes ps i within order.sorted;
  hashed = λ p there. order.hashed p ((place_removed nodes ps i within order.sorted (get_or ps i 0) p refl).0 there).0;
  slots = λ p there. order.slots p ((place_removed nodes ps i within order.sorted (get_or ps i 0) p refl).0 there).0;
}

-- ---- the search

not_greater : (o p q : Ordering) → ordering_then (ordering_then o p) q ≡ Less → o ≢ Greater
not_greater Less p q less = λ e. cc
not_greater Equal p q less = λ e. cc
not_greater Greater p q less = λ e. cc

at_most : (a b : ℕ) (o : Ordering) → nat_cmp a b ≡ o → o ≢ Greater → a ≤ b
at_most a b Less e isnt = (omega (arith, ranked a b Less (sym e)))
at_most a b Equal e isnt = (omega (arith, ranked a b Equal (sym e)))
at_most a b Greater e isnt = absurd (isnt refl)

-- the hash of a key that is before another is not above the other's
hash_most : (x y : Key) → key_cmp x y ≡ Less → key_hash x ≤ key_hash y
unfolding key_cmp
hash_most x y less = at_most (key_hash x) (key_hash y) (nat_cmp (key_hash x) (key_hash y)) refl
    (not_greater (nat_cmp (key_hash x) (key_hash y)) (option_cmp nat_cmp x.0 y.0) (slice_cmp nat_cmp x.1 y.1) less)

-- and a key whose hash is below another's is before it
pub hash_less : (x y : Key) → key_hash x < key_hash y → key_cmp x y ≡ Less
unfolding key_cmp
hash_less x y lt = grind (arith, nat_tests, common_steps)

pub hash_is : {nodes : List Node} {ps hashes : List ℕ} → IsOrdered nodes ps hashes → (k : ℕ) → k < length ps
    → hash_at ps hashes k ≡ key_hash (key_at nodes ps k)
hash_is {nodes} {ps} order k within = order.hashed (get_or ps k 0) (record { at = k; within = within; is = refl })

pub are_rising : {nodes : List Node} {ps hashes : List ℕ} → IsOrdered nodes ps hashes → AreRising ps hashes
are_rising {nodes} {ps} {hashes} order = record {
  rising = λ i j lt within. rw (hash_is order i (omega arith), hash_is order j within)
      (hash_most (key_at nodes ps i) (key_at nodes ps j) (order.sorted i j lt within));
  slots = λ k within. order.slots (get_or ps k 0) (record { at = k; within = within; is = refl });
}

-- what stands before the first of a hash is before each key of it
pub before_hash : {nodes : List Node} {ps hashes : List ℕ} → IsOrdered nodes ps hashes → (from : ℕ) (key : Key)
    → from ≤ length ps → ((k : ℕ) → k < from → hash_at ps hashes k < key_hash key)
    → (k : ℕ) → k < from → key_cmp (key_at nodes ps k) key ≡ Less
before_hash {nodes} {ps} order from key within below k lt =
    hash_less (key_at nodes ps k) key (rw (hash_is order k (omega arith)) at (below k lt))

-- how the key of the node that stands there compares
pub compared : (nodes : List Node) (ps : List ℕ) (m : ℕ) (key : Key) {n : Node} {o : Ordering}
    → get_or ps m 0 < length nodes → n ≡ get_or nodes (get_or ps m 0) n → o ≡ key_cmp (key_of n) key
    → key_cmp (key_at nodes ps m) key ≡ o
compared nodes ps m key {n} there read is = cc (get_or_read nodes (get_or ps m 0) n there read no_node)

-- what stands after one that isn't before a key isn't before it either
pub halved_above : (nodes : List Node) (ps : List ℕ) (m : ℕ) (key : Key) → IsSorted nodes ps
    → key_cmp (key_at nodes ps m) key ≢ Less → (k : ℕ) → m ≤ k → k < length ps → key_cmp (key_at nodes ps k) key ≢ Less
halved_above nodes ps m key sorted isnt k le within less = elim (cases_eq k m) [
  | inl same ↦ isnt (rw same at less)
  | inr other ↦ isnt (less_through _ _ _ (sorted m k (omega arith) within) less)
]

-- the branch of a key can only stand in the first place that isn't before it
pub first_is : (nodes : List Node) (ps : List ℕ) (at : ℕ) (key : Key) → IsSorted nodes ps
    → ((k : ℕ) → k < at → key_cmp (key_at nodes ps k) key ≡ Less)
    → ((k : ℕ) → at ≤ k → k < length ps → key_cmp (key_at nodes ps k) key ≢ Less)
    → (k : ℕ) → k < length ps → key_at nodes ps k ≡ key → k ≡ at
first_is nodes ps at key sorted below from k within is = elim (cases_order k at) [
  | inl same ↦ same
  | inr differ ↦ elim differ [
    | inl before ↦ absurd (not_itself (key_at nodes ps k) key is (below k before))
    | inr after ↦ absurd (from at (omega arith) (omega arith) (rw is at (sorted at k after within)))
  ]
]

branch_at_first : (nodes : List Node) (ps : List ℕ) (at superior : ℕ) (name : List ℕ) → IsSorted nodes ps
    → ((k : ℕ) → k < at → key_cmp (key_at nodes ps k) (Some superior, name) ≡ Less)
    → ((k : ℕ) → at ≤ k → k < length ps → key_cmp (key_at nodes ps k) (Some superior, name) ≢ Less) → (place : ℕ)
    → (there : HasPlace ps place) → is_branch superior name (shape (node_at nodes place)) ≡ true → there.at ≡ at
branch_at_first nodes ps at superior name sorted below from place there is =
    first_is nodes ps at (Some superior, name) sorted below from there.at there.within
    (cc (branch_key superior name (node_at nodes place) is))

-- so the first of those from there on is its place
pub first_place : (nodes : List Node) (ps : List ℕ) (at superior : ℕ) (name : List ℕ) → IsSorted nodes ps
    → ((k : ℕ) → k < at → key_cmp (key_at nodes ps k) (Some superior, name) ≡ Less)
    → ((k : ℕ) → at ≤ k → k < length ps → key_cmp (key_at nodes ps k) (Some superior, name) ≢ Less) → (place : ℕ)
    → HasPlace ps place → is_branch superior name (shape (node_at nodes place)) ≡ true
    → (at < length ps) × (get_or ps at 0 ≡ place)
first_place nodes ps at superior name sorted below from place there is =
    let same = branch_at_first nodes ps at superior name sorted below from place there is in
    (rw same at there.within, rw same at there.is)
