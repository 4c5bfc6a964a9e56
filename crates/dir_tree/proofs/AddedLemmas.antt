-- What a new branch leaves of the tables behind a tree.
use Rattle.dir_tree.proofs.Prelude.{cases_eq, eq-eqb, ne_eqb, common_steps, ◌≡◌, ◌≢◌, ℕ, ◌+◌, ◌-◌, ◌<◌, ◌≤◌, true, eqb, if◌then◌else◌, List, [], ◌∷◌, ◌++◌, length, take, Option, Some, None, refl, sym, ap, ◌∙◌, arith, get_or, inl, inr, ◌⊎◌, ◌↔◌, length-map, length_push, get_or_append_left, get_or_push, get_or-take, length-take-le, Node, Entry, Places, HasPlace, IsOrdered, AreWithin, key_of, key_at, node_at, is_directory, add_fault_of, shape, shapes, IsBranch, no_entry, entry_at, newest, place_for, IsNamed, IsPlace, IsKept, directory_shape, branch_in, subst, Joins, nat_tests}
use Rattle.dir_tree.proofs.EditLemmas.{each_pushed}
use Rattle.dir_tree.proofs.NewestLemmas.{node_of_entry, newest_same, newest_push, length_newest}
use Rattle.dir_tree.proofs.KeptLemmas.{MayAdd, no_fault, below_newest, no_place, places_within}
use Rattle.dir_tree.proofs.IndexLemmas.{key_branch}

-- where a new node stands: after all others, or in the last free place
data Placed (nodes : List Node) (free : List ℕ) (place : ℕ) : Type 0 where
  Behind : length free ≡ 0 → place ≡ length nodes → Placed nodes free place
  Reused : 0 < length free → place ≡ get_or free (length free - 1) 0 → Placed nodes free place

placed : (nodes : List Node) (free : List ℕ) (place : ℕ) → place ≡ place_for nodes free → Placed nodes free place
placed nodes free place is = elim (cases_eq (length free) 0) [
  | inl none ↦ Behind none (rw (eq-eqb (length free) 0 none) at is)
  | inr some ↦ Reused (omega arith) (rw (ne_eqb (length free) 0 some) at is)
]

module _ {nodes : List Node} {es : List Entry} {free : List ℕ} {index : Places} {next : ℕ}
    (k : IsKept nodes es free index next) (place : ℕ) (is_place : place ≡ place_for nodes free) where
  -- the place of a new node is no entry's
  pub place_unused : (j : ℕ) → j < length es → (entry_at es j).place ≢ place
  place_unused j lt e = grind (arith, nat_tests, common_steps, placed)

  pub place_room : length es < 4097 → place < 4097
  place_room room = grind (arith, nat_tests, common_steps, placed)

  pub no_place_yet : HasPlace index.places place → ⊥
  no_place_yet there = (let p = k.places place there in place_unused p.i p.within p.place_is)

  -- what the index asks for, once the new node stands in its place
  module _ (nodes' : List Node) (others : (p : ℕ) → p ≢ place → node_at nodes' p ≡ node_at nodes p)
      (grown : length nodes' ≡ (if eqb (length free) 0 then length nodes + 1 else length nodes)) where
    old_key : (i : ℕ) → i < length index.places → key_at nodes' index.places i ≡ key_at nodes index.places i
    old_key i lt = ap key_of (others (get_or index.places i 0)
        (λ e. no_place_yet (record { at = i; within = lt; is = e })))

    longer : length nodes ≤ length nodes'
    longer = grind (arith, nat_tests, common_steps)

    new_within : place < length nodes'
    new_within = grind (arith, nat_tests, common_steps, placed, longer)

    pub asked : IsOrdered nodes' index.places index.hashes × AreWithin nodes' index.places × (place < length nodes')
    asked = (
      record {
        sorted = λ i j lt in_j. rw (old_key i (omega arith), old_key j in_j) (k.order.sorted i j lt in_j);
        hashed = λ p there. rw (others p (λ e. no_place_yet (rw e at there))) (k.order.hashed p there);
        slots = k.order.slots;
      },
      λ i lt. (let within = places_within k i lt in let l = longer in omega arith),
      new_within,
    )

    -- no branch that is there has its key
    pub new_key : (s : ℕ) (n : Node) → node_at nodes' place ≡ n → n.superior ≡ Some s
        → branch_in (shapes (newest nodes es)) s n.name ≡ None
        → (i : ℕ) → i < length index.places → key_at nodes' index.places i ≢ key_of (node_at nodes' place)
    new_key s n here up none i lt e =
        (let same : key_at nodes index.places i ≡ (Some s, n.name) = sym (old_key i lt) ∙ e ∙ ap key_of here
        ∙ ap (λ (o : Option ℕ). (o, n.name)) up in
        no_place k s n.name none (get_or index.places i 0) (record { at = i; within = lt; is = refl })
        (key_branch s n.name (node_at nodes (get_or index.places i 0)) same))

module _ {nodes : List Node} {es : List Entry} {free : List ℕ} {index : Places} {next : ℕ}
    (k : IsKept nodes es free index next) (s : ℕ) (n : Node)
    (nodes' : List Node) (free' : List ℕ) (index' : Places) (place : ℕ)
    (n_uid : n.uid ≡ next) (n_superior : n.superior ≡ Some s) (directory : is_directory (newest nodes es) s ≡ true)
    (may : add_fault_of (shapes (newest nodes es)) s n.name n.dir ≡ None)
    (is_place : place ≡ place_for nodes free) (here : node_at nodes' place ≡ n)
    (others : (p : ℕ) → p ≢ place → node_at nodes' p ≡ node_at nodes p) (rest : free' ≡ take (length free - 1) free)
    (grown : length nodes' ≡ (if eqb (length free) 0 then length nodes + 1 else length nodes))
    (order : IsOrdered nodes' index'.places index'.hashes)
    (places : (p : ℕ) → HasPlace index'.places p ↔ (HasPlace index.places p ⊎ (p ≡ place)))
    (count : length index'.places ≡ length index.places + 1) (room : index'.room ≡ index.room) where
  abbrev entry : Entry
  entry = record { uid = next; superior = Some s; place = place; inferiors = 0 }

  abbrev es' : List Entry
  es' = es ++ entry ∷ []

  may_add : MayAdd (shapes (newest nodes es)) s n.name n.dir
  may_add = no_fault (shapes (newest nodes es)) s n.name n.dir may

  unused : (j : ℕ) → j < length es → (entry_at es j).place ≢ place
  unused = place_unused k place is_place

  old_node : (j : ℕ) → j < length es → node_of_entry nodes' es j ≡ node_of_entry nodes es j
  old_node j lt = others (entry_at es j).place (unused j lt)

  view_added : newest nodes' es' ≡ n ∷ newest nodes es
  view_added = rw (newest_push nodes' es entry, here, newest_same nodes' nodes es old_node) refl

  few_es : length es < 4097
  few_es = rw (length-map (newest nodes es) shape, length_newest nodes es) at may_add.room

  branch : IsBranch (shapes (newest nodes es)) s (shape n)
  branch = record {
    later = rw n_uid (below_newest next nodes es (λ i lt. rw (k.uids i lt) (k.below i lt)));
    below = directory_shape (newest nodes es) s ∙ directory;
    new = may_add.new;
    shallow = may_add.shallow;
  }

  size : length es' ≡ length es + 1
  size = length_push es entry

  size_free : length free' ≡ length free - 1
  size_free = rw rest (length-take-le (length free - 1) free (omega arith))

  old_free : (i : ℕ) → i < length free' → get_or free' i 0 ≡ get_or free i 0
  old_free i lt = (let m = size_free in rw rest (get_or-take (length free - 1) free i 0 (omega arith)))

  more : length nodes ≤ length nodes'
  more = longer k place is_place nodes' others grown

  old_entry : (i : ℕ) → i < length es → entry_at es' i ≡ entry_at es i
  old_entry i lt = get_or_append_left es (entry ∷ []) no_entry i lt

  new_entry : (i : ℕ) → length es ≤ i → i < length es' → entry_at es' i ≡ entry
  new_entry i le lt = (let m = size in get_or_push es entry no_entry i (omega arith))

  rising' : (i j : ℕ) → i < j → j < length es' → (entry_at es' i).uid < (entry_at es' j).uid
  rising' i j lt within = grind (arith, nat_tests, common_steps, size, old_entry, new_entry)

  free_apart' : (i j : ℕ) → i < j → j < length free' → get_or free' i 0 ≢ get_or free' j 0
  free_apart' i j lt within e = (let m = size_free in k.free_apart i j lt (omega arith)
      (sym (old_free i (omega arith)) ∙ e ∙ old_free j within))

  place_not_free : (i : ℕ) → i < length free' → get_or free' i 0 ≢ place
  place_not_free i lt e = grind (arith, nat_tests, common_steps, size_free, placed, old_free)

  unused' : (i j : ℕ) → i < length free' → j < length es' → get_or free' i 0 ≢ (entry_at es' j).place
  unused' i j lt within e =
      grind (arith, nat_tests, common_steps, size_free, unused, old_free, old_entry, place_not_free, new_entry)

  counts : (length nodes' ≡ length es' + length free') × (length nodes' ≤ 4097)
  counts = grind (arith, nat_tests, common_steps, size, size_free, few_es)

  still_named : (o : Option ℕ) (p : ℕ) → p ≢ place → IsNamed index.places o p → IsNamed index'.places o p
  still_named None p ne none = λ there. elim ((places p).0 there) [ inl old ↦ none old | inr new ↦ ne new ]
  still_named (Some d) p ne there = (places p).1 (inl there)

  named' : (i : ℕ) → i < length es' → IsNamed index'.places (entry_at es' i).superior (entry_at es' i).place
  named' = each_pushed es entry no_entry (λ e. IsNamed index'.places e.superior e.place)
      (λ i lt. still_named (entry_at es i).superior (entry_at es i).place (unused i lt) (k.named i lt))
      ((places place).1 (inr refl))

  places' : (p : ℕ) → HasPlace index'.places p → IsPlace es' p
  places' p there = (let m = size in elim ((places p).0 there) [
    | inl old ↦ (let q = k.places p old in record {
      i = q.i;
      within = omega (arith, q.within);
      place_is = rw (old_entry q.i q.within) q.place_is;
    })
    | inr new ↦ record {
      i = length es;
      within = omega arith;
      place_is = rw (new_entry (length es) (omega arith) (omega arith)) (sym new);
    }
  ])

  kept_added : IsKept nodes' es' free' index' (next + 1)
  kept_added = record {
    uids = each_pushed es entry no_entry (λ e. (node_at nodes' e.place).uid ≡ e.uid)
        (λ i lt. ap (λ (x : Node). x.uid) (old_node i lt) ∙ k.uids i lt) (ap (λ (x : Node). x.uid) here ∙ n_uid);
    superiors = each_pushed es entry no_entry (λ e. (node_at nodes' e.place).superior ≡ e.superior)
        (λ i lt. ap (λ (x : Node). x.superior) (old_node i lt) ∙ k.superiors i lt)
        (ap (λ (x : Node). x.superior) here ∙ n_superior);
    within = each_pushed es entry no_entry (λ e. e.place < length nodes')
        (λ i lt. (omega (arith, more, k.within i lt))) (new_within k place is_place nodes' others grown);
    rising = rising';
    below = each_pushed es entry no_entry (λ e. e.uid < next + 1) (λ i lt. omega (arith, k.below i lt)) (omega arith);
    free_within =
        λ i lt. rw (old_free i lt) (omega (arith, size_free, more, k.free_within i (omega (arith, size_free, more))));
    free_apart = free_apart';
    unused = unused';
    count = counts.0;
    few = counts.1;
    named = named';
    places = places';
    order = order;
    branches = omega (arith, size, k.branches);
    room = room ∙ k.room;
    tree = rw view_added (subst (λ o. Joins (shapes (newest nodes es)) o (shape n)) (sym n_superior) branch, k.tree);
  }

  pub added : IsKept nodes' es' free' index' (next + 1) × (newest nodes' es' ≡ n ∷ newest nodes es)
  added = (kept_added, view_added)
