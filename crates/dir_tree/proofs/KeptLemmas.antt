-- What a new branch, a branch less, and a change of a node leave of the tables behind a tree.
use Rattle.dir_tree.proofs.Prelude.{common_steps, ◌≡◌, ◌≢◌, ℕ, suc, ◌<◌, Bool, true, false, eqb, List, [], ◌∷◌, ◌++◌, length, Option, Some, None, refl, sym, ap, subst, ◌∙◌, arith, get_or, inl, inr, is_some, IfSome, list_any, option_map, cases_order, both_ways, eq-eqb, ne_eqb, eqb-true, and_from, map-append, get_or_read, Term, above, branch_in, is_branch, is_inferior, Node, Entry, Places, HasPlace, AreWithin, node_at, no_node, Branches, node_of, is_in, is_segment, add_fault_of, shape, shapes, AreBelow, directory_shape, directory_in, segment_in, entry_at, newest, IsNamed, IsKept, HasEntry, IsMember, member_parts, member_map, member_found, branch_found, any_member, any_found, find_map, found_member, superior_in, lies, only_branch, is_below, not_below, IsUp, find_passes, nat_tests}
use Rattle.dir_tree.proofs.NewestLemmas.{node_of_entry, none_newest, find_newest, member_newest}

-- ---- nodes and their shapes

below_append : (v : ℕ) (xs ys : List Term) → AreBelow v xs → AreBelow v ys → AreBelow v (xs ++ ys)
below_append v [] ys a b = b
below_append v (x ∷ xs) ys a b = (a.0, below_append v xs ys a.1 b)

pub below_newest : (v : ℕ) (ns : List Node) (es : List Entry)
    → ((i : ℕ) → i < length es → (node_of_entry ns es i).uid < v) → AreBelow v (shapes (newest ns es))
below_newest v ns [] all = tt
below_newest v ns (e ∷ es) all = rw (map-append shape (newest ns es) (node_at ns e.place ∷ []))
    (below_append v (shapes (newest ns es)) (shape (node_at ns e.place) ∷ [])
    (below_newest v ns es (λ i lt. all (suc i) (omega arith))) (all 0 (omega arith), tt))

-- what keeps no branch from being added
pub record MayAdd (ns : List Term) (s : ℕ) (name : List ℕ) (dir : Bool) : Type 0 where
  pub new : branch_in ns s name ≡ None
  pub shallow : dir ≡ true → length (above ns s) < 8
  pub room : length ns < 4097

no_fault_at : (ns : List Term) (s : ℕ) (name : List ℕ) (dir : Bool) → add_fault_of ns s name dir ≡ None
    → (o : Option Term) → branch_in ns s name ≡ o → MayAdd ns s name dir
no_fault_at ns s name dir e (Some n) is = grind (arith, nat_tests, common_steps)
no_fault_at ns s name dir e None is = grind (arith, nat_tests, common_steps, both_ways, and_from)

pub no_fault : (ns : List Term) (s : ℕ) (name : List ℕ) (dir : Bool) → add_fault_of ns s name dir ≡ None
    → MayAdd ns s name dir
no_fault ns s name dir e = no_fault_at ns s name dir e (branch_in ns s name) refl

-- an entry is that of a node that is there
pub member_entry : (ns : List Node) (es : List Entry) (x : Node) → IsMember x (newest ns es) → (i : ℕ)
    × (i < length es) × (node_of_entry ns es i ≡ x)
member_entry ns [] x m = absurd m
member_entry ns (e ∷ es) x m = elim (member_parts x (newest ns es) (node_at ns e.place ∷ []) m) [
  | inl old ↦ (let h = member_entry ns es x old in (suc h.0, omega arith, h.2))
  | inr last ↦ elim last [ inl same ↦ (0, omega arith, sym same) | inr none ↦ absurd none ]
]

some_of : {X : Type 0} (o : Option X) → is_some o ≡ true → (x : X) × (o ≡ Some x)
some_of None e = cc
some_of (Some x) e = (x, refl)

pub up_in : (ns : List Node) (u : ℕ) (o : Option ℕ) → IsUp (shapes ns) u o
    → IfSome o (λ s. (s < u) × (is_in ns s ≡ true))
up_in ns u None up = tt
up_in ns u (Some s) up = (up.0, directory_in ns s (sym (directory_shape ns s) ∙ up.1))

no_branch : (n : Node) (d : ℕ) (name : List ℕ) (places : List ℕ) (place : ℕ) → IsNamed places n.superior place
    → (HasPlace places place → is_branch d name (shape n) ≡ false) → is_branch d name (shape n) ≡ false
no_branch n d name places place named none = grind (arith, nat_tests, common_steps, lies)

-- ---- an entry and its node

module _ {nodes : List Node} {es : List Entry} {free : List ℕ} {index : Places} {next : ℕ}
    (k : IsKept nodes es free index next) where
  -- two entries are of different uids, and so in different places
  apart_uids : (i j : ℕ) → i < length es → j < length es → j ≢ i → (entry_at es j).uid ≢ (entry_at es i).uid
  apart_uids i j lt_i lt_j ne e = elim (cases_order j i) [
    | inl same ↦ ne same
    | inr differ ↦ elim differ [
      | inl less ↦ (omega (arith, k.rising j i less lt_i))
      | inr more ↦ (omega (arith, k.rising i j more lt_j))
    ]
  ]

  pub apart_places : (i j : ℕ) → i < length es → j < length es → j ≢ i → (entry_at es j).place ≢ (entry_at es i).place
  apart_places i j lt_i lt_j ne e = apart_uids i j lt_i lt_j ne (cc (k.uids j lt_j, k.uids i lt_i))

  pub not_of : (uid i j : ℕ) → i < length es → (entry_at es i).uid ≡ uid → j < length es → j ≢ i
      → eqb (node_of_entry nodes es j).uid uid ≡ false
  not_of uid i j lt_i is lt_j ne = ne_eqb _ _ (λ e. apart_uids i j lt_i lt_j ne (cc (k.uids j lt_j)))

  pub node_found : (uid i : ℕ) → i < length es → (entry_at es i).uid ≡ uid → node_of (newest nodes es) uid
      ≡ Some (node_of_entry nodes es i)
  node_found uid i lt is = find_newest (λ n. eqb n.uid uid) nodes es i lt (eq-eqb _ _ (k.uids i lt ∙ is))
      (λ j lt_j ne. not_of uid i j lt is lt_j ne)

  pub node_missing : (uid : ℕ) → ((i : ℕ) → i < length es → (entry_at es i).uid ≢ uid) → node_of (newest nodes es) uid
      ≡ None
  node_missing uid none = none_newest (λ n. eqb n.uid uid) nodes es
      (λ j lt. ne_eqb _ _ (λ e. none j lt (sym (k.uids j lt) ∙ e)))

  -- what the next branch gets is no node's uid yet
  pub next_missing : is_some (node_of (newest nodes es) next) ≡ false
  next_missing = ap is_some (node_missing next (λ i lt e. (omega (arith, k.below i lt))))

  pub entry_present : (uid : ℕ)
      → is_in (newest nodes es) uid ≡ true → (i : ℕ) × (i < length es) × ((entry_at es i).uid ≡ uid)
  entry_present uid e =
      let n : (n : Node) × (node_of (newest nodes es) uid ≡ Some n) = some_of (node_of (newest nodes es) uid) e in
      let m = member_entry nodes es n.0 (found_member (λ n. eqb n.uid uid) (newest nodes es) n.0 n.1) in
      (m.0, m.1, cc (k.uids m.0 m.1, eqb-true n.0.uid uid (find_passes (λ n. eqb n.uid uid) (newest nodes es) n.0 n.1)))

  pub segment_present : (uid : ℕ) {t : Branches} → record { nodes = newest nodes es; next = next } ≡ t
      → is_segment t.nodes uid ≡ true → (i : ℕ) × (i < length es) × ((entry_at es i).uid ≡ uid)
  segment_present uid {t} seen is =
      entry_present uid (subst (λ (t : Branches). is_in t.nodes uid ≡ true) (sym seen) (segment_in t.nodes uid is))

  -- ---- what a look-up reads

  pub node_read : (uid : ℕ) (e : Entry)
      → HasEntry es uid e → (x : Node) → x ≡ get_or nodes e.place x → node_of (newest nodes es) uid ≡ Some x
  node_read uid e h x read = grind (arith, nat_tests, common_steps, get_or_read, node_found)

  -- the superior of a node is its entry's
  pub superior_read : (uid : ℕ) (e : Entry) → HasEntry es uid e
      → superior_in (shapes (newest nodes es)) uid ≡ e.superior
  superior_read uid e h =
      let shaped = find_map (λ n. eqb n.uid uid) shape (newest nodes es)
      ∙ ap (option_map shape) (node_found uid h.i h.within (cc)) in
      cc (k.superiors h.i h.within)

  -- the branch of a name is the node that the index finds
  pub branch_read : (d : ℕ) (name : List ℕ) (place : ℕ)
      → HasPlace index.places place → is_branch d name (shape (node_at nodes place)) ≡ true
      → branch_in (shapes (newest nodes es)) d name ≡ Some (shape (node_at nodes place))
  branch_read d name place there is = branch_at (branch_in (shapes (newest nodes es)) d name) refl
    where
      member : IsMember (shape (node_at nodes place)) (shapes (newest nodes es))
      member = (let p = k.places place there in
          rw (← p.place_is) (member_map shape _ (newest nodes es) (member_newest nodes es p.i p.within)))

      branch_at : (o : Option Term) → branch_in (shapes (newest nodes es)) d name ≡ o
          → branch_in (shapes (newest nodes es)) d name ≡ Some (shape (node_at nodes place))
      branch_at None e = absurd (member_found (is_branch d name) (shapes (newest nodes es)) _ member is
          (sym (branch_found d name (shapes (newest nodes es))) ∙ e))
      branch_at (Some x) e = e ∙ ap (λ (n : Term). Some n)
          (only_branch (shapes (newest nodes es)) k.tree d name x _ e member is)

  pub branch_missing : (d : ℕ) (name : List ℕ)
      → ((place : ℕ) → HasPlace index.places place → is_branch d name (shape (node_at nodes place)) ≡ false)
      → branch_in (shapes (newest nodes es)) d name ≡ None
  branch_missing d name none = cc (
    branch_found d name (shapes (newest nodes es)),
    find_map (is_branch d name) shape (newest nodes es),
    none_newest (λ n. is_branch d name (shape n)) nodes es (λ j lt. no_branch (node_of_entry nodes es j) d name
        index.places (entry_at es j).place (subst (λ o. IsNamed index.places o (entry_at es j).place)
        (sym (k.superiors j lt)) (k.named j lt)) (none (entry_at es j).place)),
  )

  -- where no branch of a name is there, no place of the index is that of one
  pub no_place : (d : ℕ) (name : List ℕ) → branch_in (shapes (newest nodes es)) d name ≡ None
      → (place : ℕ) → HasPlace index.places place → is_branch d name (shape (node_at nodes place)) ≡ true → ⊥
  no_place d name none place there is = grind (arith, nat_tests, common_steps, branch_read)

  pub places_within : AreWithin nodes index.places
  places_within i lt = (let p = k.places (get_or index.places i 0) (record { at = i; within = lt; is = refl }) in
      rw p.place_is at (k.within p.i p.within))

  pub place_within : (place : ℕ) → HasPlace index.places place → place < length nodes
  place_within place there = rw there.is at (places_within there.at there.within)

  pub place_read : (place : ℕ) (x : Node) → HasPlace index.places place → x ≡ get_or nodes place x
      → x ≡ node_at nodes place
  place_read place x there read = get_or_read nodes place x (place_within place there) read no_node

  -- what stands in the index is a node of the tree
  pub place_there : (place : ℕ) → HasPlace index.places place → is_in (newest nodes es) (node_at nodes place).uid ≡ true
  place_there place there = grind (arith, nat_tests, common_steps, node_found, node_of_entry)

  -- a node has an inferior where an entry has it as superior
  pub inferior_since : (u i : ℕ)
      → i < length es → (entry_at es i).superior ≡ Some u → list_any (is_inferior u) (shapes (newest nodes es)) ≡ true
  inferior_since u i lt is =
      any_member (is_inferior u) (shapes (newest nodes es))
      (shape (node_of_entry nodes es i)) (member_map shape _ (newest nodes es) (member_newest nodes es i lt))
      (is_below u (shape (node_of_entry nodes es i)) (k.superiors i lt ∙ is))

  pub no_inferior : (u : ℕ) → ((i : ℕ) → i < length es → (entry_at es i).superior ≢ Some u)
      → list_any (is_inferior u) (shapes (newest nodes es)) ≡ false
  no_inferior u none =
      grind (arith, nat_tests, common_steps, any_found, find_map, none_newest, not_below, node_of_entry)
