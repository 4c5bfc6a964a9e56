-- The names from the root down to a node are those of the nodes on the way there.
use Rattle.listing.proofs.Prelude.{◌≡◌, ℕ, ◌<◌, ◌≤◌, true, false, eqb, List, [], ◌∷◌, ◌++◌, length, reverse, take, is_some, Option, Some, None, refl, sym, subst, ◌∙◌, arith, inl, inr, flat_map, cases_Bool, nat_tests, common_steps, flat_map-append, Node, above, node_in, step_up, AreBelow, AreUnder, IsTree, Joins, has_chains, under_more, trail_of, trail_up, rest_of, later_joined, directory_there}
use mathlib.Core.List.{reverse-cons}

-- the name of a node, where there is one
abbrev pub name_of : Option Node → List (List ℕ)
name_of None = []
name_of (Some n) = n.name ∷ []

abbrev pub name_at : List Node → ℕ → List (List ℕ)
name_at ns u = name_of (node_in ns u)

-- those under the root on the way down to a node, and the node
abbrev pub way : List Node → ℕ → List ℕ
way ns u = rest_of (reverse (u ∷ above ns u))

none_below : (ns : List Node) {u : ℕ} → AreBelow u ns → (v : ℕ) → is_some (node_in ns v) ≡ true → v < u
none_below [] b v e = cc
none_below (n ∷ ns) {u} b v e = elim (cases_Bool (eqb n.uid v)) [
  | inl is ↦ (grind (arith, nat_tests))
  | inr isnt ↦ none_below ns {u = u} b.1 v (rw isnt at e)
]

under_append : (u : ℕ) (xs ys : List ℕ) → AreUnder u xs → AreUnder u ys → AreUnder u (xs ++ ys)
under_append u [] ys a b = b
under_append u (x ∷ xs) ys a b = (a.0, under_append u xs ys a.1 b)

under_reverse : (u : ℕ) (xs : List ℕ) → AreUnder u xs → AreUnder u (reverse xs)
under_reverse u [] h = tt
under_reverse u (x ∷ xs) h = subst (AreUnder u) (sym (reverse-cons x xs))
    (under_append u (reverse xs) (x ∷ []) (under_reverse u xs h.1) (h.0, tt))

under_tail : (u : ℕ) (xs : List ℕ) → AreUnder u xs → AreUnder u (rest_of xs)
under_tail u [] h = tt
under_tail u (x ∷ xs) h = h.1

tail_append : (xs ys : List ℕ) (x : ℕ) → rest_of ((xs ++ x ∷ []) ++ ys) ≡ rest_of (xs ++ x ∷ []) ++ ys
tail_append [] ys x = refl
tail_append (y ∷ xs) ys x = refl

-- a newer node gives no name to older ones
names_older : (n : Node) (ns : List Node) (xs : List ℕ) → AreUnder n.uid xs → flat_map (name_at (n ∷ ns)) xs
    ≡ flat_map (name_at ns) xs
names_older n ns [] h = refl
names_older n ns (x ∷ xs) h =
    let other : eqb n.uid x ≡ false = grind (arith, nat_tests) in
    rw other (cc (names_older n ns xs h.1))

way_down : (ns : List Node) (u s : ℕ) → rest_of (reverse (u ∷ s ∷ above ns s)) ≡ way ns s ++ u ∷ []
way_down ns u s =
    cc (reverse-cons u (s ∷ above ns s), reverse-cons s (above ns s), tail_append (reverse (above ns s)) (u ∷ []) s)

joined : (n : Node) (ns : List Node) (u : ℕ) (o : Option ℕ) → eqb n.uid u ≡ true → Joins ns o n → IsTree ns
    → ((s : ℕ) → is_some (node_in ns s) ≡ true → trail_of ns s ≡ flat_map (name_at ns) (way ns s))
    → trail_up (trail_of ns) n.name o ≡ flat_map (name_at (n ∷ ns)) (rest_of (reverse (u ∷ step_up (above ns) o)))
joined n ns u None is root t ih = refl
joined n ns u (Some s) is branch t ih =
    let there : is_some (node_in ns s) ≡ true = directory_there ns s branch.below in
    let less : s < n.uid = none_below ns {u = n.uid} branch.later s there in
    let under : AreUnder n.uid (s ∷ above ns s) = (
      less,
      under_more n.uid s (above ns s) less ((has_chains ns t).under s),
    ) in
    let own : flat_map (name_at (n ∷ ns)) (u ∷ []) ≡ n.name ∷ [] = rw is refl in
    cc (
      ih s there,
      names_older n ns (way ns s) (under_tail n.uid (reverse (s ∷ above ns s))
          (under_reverse n.uid (s ∷ above ns s) under)),
      flat_map-append (name_at (n ∷ ns)) (way ns s) (u ∷ []),
      way_down ns u s,
    )

-- the trail of a node is the names on the way there
trail_is : (ns : List Node) (u : ℕ) → IsTree ns → is_some (node_in ns u) ≡ true → trail_of ns u
    ≡ flat_map (name_at ns) (way ns u)
trail_is [] u t there = cc
trail_is (n ∷ ns) u t there = elim (cases_Bool (eqb n.uid u)) [
  | inl is ↦ rw is (joined n ns u n.superior is t.0 t.1 (λ s. trail_is ns s t.1))
  | inr isnt ↦
      (let in_rest : is_some (node_in ns u) ≡ true = rw isnt at there in
      let less : u < n.uid = none_below ns {u = n.uid} (later_joined ns n n.superior t.0) u in_rest in
      let under : AreUnder n.uid (u ∷ above ns u) = (
        less,
        under_more n.uid u (above ns u) less ((has_chains ns t.1).under u),
      ) in
      rw isnt (trail_is ns u t.1 in_rest ∙ sym (names_older n ns (way ns u) (under_tail n.uid (reverse (u ∷ above ns u))
      (under_reverse n.uid (u ∷ above ns u) under)))))
]

-- the names of the nodes on the way so far
abbrev pub HasTrail : List Node → List ℕ → List (List ℕ) → Type 0
HasTrail ns xs names = names ≡ flat_map (name_at ns) xs

pub trail_end : (ns : List Node) (u : ℕ) (chain xs : List ℕ) (i : ℕ) (names : List (List ℕ)) → IsTree ns
    → is_some (node_in ns u) ≡ true
    → chain ≡ reverse (u ∷ above ns u) → xs ≡ rest_of chain → length xs ≤ i → HasTrail ns (take i xs) names → names
    ≡ trail_of ns u
trail_end ns u chain xs i names t there is rest le h =
    let whole : take i xs ≡ xs = grind (arith, common_steps) in
    cc (trail_is ns u t there)
