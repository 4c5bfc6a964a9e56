-- What a change of a node, which keeps its shape, leaves of the tables behind a tree.
use Rattle.dir_tree.proofs.Prelude.{common_steps, ◌≡◌, ◌≢◌, ℕ, suc, ◌<◌, true, false, [], ◌∷◌, arith, eqb, if◌then◌else◌, List, length, refl, sym, ap, ◌∙◌, get_or, set, inl, inr, cases_Bool, cases_eq, eq-eqb, ne_eqb, get_or-set_same, get_or-set_other, length-set, map-append, get_or_read, Term, Node, Entry, Places, Key, HasPlace, key_at, key_of, key_hash, node_at, no_node, Branches, added, is_in, with_acl, with_changed, node_of, acl_of, NewNode, Row, shape, entry_at, newest, IsKept, HasEntry, shapes, nat_tests}
use Rattle.dir_tree.proofs.NewestLemmas.{node_of_entry, newest_changed}
use Rattle.dir_tree.proofs.KeptLemmas.{apart_places, not_of, node_read}

shapes_newest : (ms ns : List Node) (es : List Entry) →
    ((j : ℕ) → j < length es → shape (node_of_entry ms es j) ≡ shape (node_of_entry ns es j))
    → shapes (newest ms es) ≡ shapes (newest ns es)
shapes_newest ms ns [] same = refl
shapes_newest ms ns (e ∷ es) same =
    let more = shapes_newest ms ns es (λ j lt. same (suc j) (omega arith)) in
    rw (map-append shape (newest ms es) (node_at ms e.place ∷ []), more, same 0 (omega arith))
    (sym (map-append shape (newest ns es) (node_at ns e.place ∷ [])))

abbrev shape_key : Term → Key
shape_key t = (t.superior, t.name)

module _ {nodes : List Node} {es : List Entry} {free : List ℕ} {index : Places} {next : ℕ}
    (k : IsKept nodes es free index next) (uid i : ℕ)
    (within : i < length es) (is_uid : (entry_at es i).uid ≡ uid) (h : Node → Node) (m : Node)
    (is : m ≡ h (node_of_entry nodes es i)) (keeps : shape m ≡ shape (node_of_entry nodes es i)) where
  abbrev nodes' : List Node
  nodes' = set nodes (entry_at es i).place m

  here : node_of_entry nodes' es i ≡ m
  here = get_or-set_same nodes (entry_at es i).place m no_node (k.within i within)

  there : (j : ℕ) → j < length es → j ≢ i → node_of_entry nodes' es j ≡ node_of_entry nodes es j
  there j lt ne = get_or-set_other nodes (entry_at es i).place (entry_at es j).place m no_node
      (apart_places k i j within lt ne)

  same_shape : (j : ℕ) → j < length es → shape (node_of_entry nodes' es j) ≡ shape (node_of_entry nodes es j)
  same_shape j lt = grind (arith, nat_tests, common_steps, here, there)

  same_key_of : (place : ℕ) → HasPlace index.places place → key_of (node_at nodes' place) ≡ key_of (node_at nodes place)
  same_key_of place at = (let p = k.places place at in rw p.place_is at (ap shape_key (same_shape p.i p.within)))

  same_key : (a : ℕ) → a < length index.places → key_at nodes' index.places a ≡ key_at nodes index.places a
  same_key a lt = same_key_of (get_or index.places a 0) (record { at = a; within = lt; is = refl })

  changed : (j : ℕ) → j < length es → node_of_entry nodes' es
      j ≡ (if eqb (node_of_entry nodes es j).uid uid then h (node_of_entry nodes es j) else node_of_entry nodes es j)
  changed j lt = elim (cases_eq j i) [
    | inl same ↦ rw (same, eq-eqb (node_of_entry nodes es i).uid uid (k.uids i within ∙ is_uid)) (here ∙ is)
    | inr other ↦ rw (not_of k uid i j within is_uid lt other) (there j lt other)
  ]

  pub view_changed : newest nodes' es ≡ with_changed uid h (newest nodes es)
  view_changed = newest_changed nodes' nodes es (λ n. if eqb n.uid uid then h n else n) changed

  pub kept_changed : IsKept nodes' es free index next
  kept_changed = record {
    uids = λ j lt. ap (λ (t : Term). t.uid) (same_shape j lt) ∙ k.uids j lt;
    superiors = λ j lt. ap (λ (t : Term). t.superior) (same_shape j lt) ∙ k.superiors j lt;
    within = λ j lt. rw (length-set nodes (entry_at es i).place m) (k.within j lt);
    rising = k.rising;
    below = k.below;
    free_within = λ j lt. rw (length-set nodes (entry_at es i).place m) (k.free_within j lt);
    free_apart = k.free_apart;
    unused = k.unused;
    count = length-set nodes (entry_at es i).place m ∙ k.count;
    few = rw (length-set nodes (entry_at es i).place m) k.few;
    named = k.named;
    places = k.places;
    order = record {
      sorted = λ a b lt in_b. rw (same_key a (omega arith), same_key b in_b) (k.order.sorted a b lt in_b);
      hashed = λ p at. k.order.hashed p at ∙ ap key_hash (sym (same_key_of p at));
      slots = k.order.slots;
    };
    branches = k.branches;
    room = k.room;
    tree = rw (shapes_newest nodes' nodes es same_shape) k.tree;
  }

-- a change of nodes that keeps their shapes
pub shapes_changed : (u : ℕ) (h : Node → Node) → ((n : Node) → shape (h n) ≡ shape n) → (ns : List Node)
    → shapes (with_changed u h ns) ≡ shapes ns
shapes_changed u h keeps [] = refl
shapes_changed u h keeps (n ∷ ns) = elim (cases_Bool (eqb n.uid u)) [
  | inl is ↦ rw (is, keeps n, shapes_changed u h keeps ns) refl
  | inr isnt ↦ rw (isnt, shapes_changed u h keeps ns) refl
]

-- and of one uid, which leaves the nodes of others as they were
pub others_kept : (u : ℕ) (h : Node → Node) → ((n : Node) → (h n).uid ≡ n.uid) → (ns : List Node) (v : ℕ) → v ≢ u
    → node_of (with_changed u h ns) v ≡ node_of ns v
others_kept u h keeps [] v other = refl
others_kept u h keeps (n ∷ ns) v other = elim (cases_eq n.uid u) [
  | inl same ↦
      (let off : eqb n.uid v ≡ false = ne_eqb n.uid v (λ e. other (cc)) in
      let still : eqb (h n).uid v ≡ false = rw (keeps n) off in
      rw (eq-eqb n.uid u same, still, off) (others_kept u h keeps ns v other))
  | inr far ↦ rw (ne_eqb n.uid u far) (elim (cases_Bool (eqb n.uid v))
      [ inl is ↦ rw is refl | inr isnt ↦ rw isnt (others_kept u h keeps ns v other) ])
]

-- a change of a uid that no node has changes nothing
pub none_changed : (u : ℕ) (h : Node → Node) (ns : List Node) → is_in ns u ≡ false → with_changed u h ns ≡ ns
none_changed u h [] off = refl
none_changed u h (n ∷ ns) off = elim (cases_Bool (eqb n.uid u)) [
  | inl is ↦ (let clash : true ≡ false = rw is at off in cc)
  | inr isnt ↦ rw isnt (cc (none_changed u h ns (rw isnt at off)))
]

-- the rows of a new branch, set once it is there
pub rows_added : (t : Branches) (superior : ℕ) (new : NewNode) (rows : List Row) → is_in t.nodes t.next ≡ false
    → with_acl (added t superior (record new { acl = rows })) t.next new.acl ≡ added t superior new
rows_added t superior new rows fresh = rw (eq-eqb t.next t.next refl)
    (cc (none_changed t.next (λ n. record n { acl = new.acl }) t.nodes fresh))

module _ {nodes : List Node} {es : List Entry} {free : List ℕ} {index : Places} {next : ℕ}
    (k : IsKept nodes es free index next) where
  pub set_kept : (uid place : ℕ)
      → (i : ℕ) × (i < length es) × ((entry_at es i).uid ≡ uid) × ((entry_at es i).place ≡ place)
      → (h : Node → Node) → ((n : Node) → shape (h n) ≡ shape n) → (x : Node) → x ≡ get_or nodes place x
      → IsKept (set nodes place (h x)) es free index next
      × (newest (set nodes place (h x)) es ≡ with_changed uid h (newest nodes es))
  set_kept uid place at h keeps x read =
      let within = rw at.3 at (k.within at.0 at.1) in
      let node : x ≡ node_of_entry nodes es at.0 = rw at.3 (get_or_read nodes place x within read no_node) in
      let same : shape (h x) ≡ shape (node_of_entry nodes es at.0) = keeps x ∙ ap shape node in
      rw (← at.3) (
        kept_changed k uid at.0 at.1 at.2 h (h x) (ap h node) same,
        view_changed k uid at.0 at.1 at.2 h (h x) (ap h node) same,
      )

  pub acl_read : (uid place : ℕ)
      → (i : ℕ) × (i < length es) × ((entry_at es i).uid ≡ uid) × ((entry_at es i).place ≡ place)
      → (x : Node) → x ≡ get_or nodes place x → x.acl ≡ acl_of (newest nodes es) uid
  acl_read uid place at x read =
      let entry : HasEntry es uid (entry_at es at.0) =
      record { i = at.0; within = at.1; entry_is = refl; uid_is = at.2 } in
      rw (node_read k uid (entry_at es at.0) entry x (rw at.3 read)) refl

  -- what the tables show once a segment has been changed, where they showed this tree
  pub set_seen : (uid place : ℕ)
      → (i : ℕ) × (i < length es) × ((entry_at es i).uid ≡ uid) × ((entry_at es i).place ≡ place)
      → (h : Node → Node) → ((n : Node) → shape (h n) ≡ shape n) → (x : Node) → x ≡ get_or nodes place x
      → {now : Branches} → record { nodes = newest nodes es; next = next } ≡ now → record {
        kept : IsKept (set nodes place (h x)) es free index next;
        tree : record { nodes = newest (set nodes place (h x)) es; next = next }
            ≡ record now { nodes = with_changed uid h now.nodes };
        shapes : shapes (newest (set nodes place (h x)) es) ≡ shapes now.nodes;
      }
  set_seen uid place at h keeps x read seen =
      let set = set_kept uid place at h keeps x read in assumption (
        ap (λ (ns : List Node). record
            { nodes = ns; next = next }) set.1 ∙ ap (λ (t : Branches). record t { nodes = with_changed uid h t.nodes })
            seen,
        ap shapes set.1 ∙ shapes_changed uid h keeps _ ∙ ap (λ (t : Branches). shapes t.nodes) seen,
      )
