-- What a branch less leaves of the tables behind a tree.
use Rattle.dir_tree.proofs.Prelude.{◌≡◌, ◌≢◌, ℕ, ◌+◌, ◌<◌, ◌≤◌, false, eqb, not, List, [], ◌∷◌, ◌++◌, length, Option, Some, None, refl, sym, ap, ◌∙◌, arith, get_or, inl, inr, ◌↔◌, remove, list_any, option_map, cases_lt, eq-eqb, not_from_true, not_from_false, length_push, get_or_append_left, get_or_push, is_inferior, Node, Entry, Places, HasPlace, IsOrdered, node_at, without, shape, shapes, no_entry, entry_at, newest, IsNamed, IsPlace, IsKept, filter_map_same, find_map, tree_left, root_found, before}
use Rattle.dir_tree.proofs.EditLemmas.{each_pushed, each_left, was, was_up, was_other, now, was_now, at_was, fewer, was_within, now_within}
use Rattle.dir_tree.proofs.NewestLemmas.{node_of_entry, newest_remove}
use Rattle.dir_tree.proofs.KeptLemmas.{apart_places, not_of, node_found}

module _ {nodes : List Node} {es : List Entry} {free : List ℕ} {index : Places} {next : ℕ}
    (k : IsKept nodes es free index next) (i : ℕ) (within : i < length es) (index' : Places)
    (leaf : list_any (is_inferior (entry_at es i).uid) (shapes (newest nodes es)) ≡ false)
    (order : IsOrdered nodes index'.places index'.hashes) (places : (p : ℕ) → HasPlace index'.places p
    ↔ (HasPlace index.places p × (p ≢ (entry_at es i).place)))
    (count : length index'.places + 1 ≡ length index.places) (room : index'.room ≡ index.room) where
  abbrev uid : ℕ
  uid = (entry_at es i).uid

  abbrev place : ℕ
  place = (entry_at es i).place

  abbrev es' : List Entry
  es' = remove es i

  abbrev free' : List ℕ
  free' = free ++ place ∷ []

  pub view_removed : newest nodes es' ≡ without uid (newest nodes es)
  view_removed = newest_remove (λ n. not (eqb n.uid uid)) nodes es i within
      (not_from_true _ (eq-eqb _ _ (k.uids i within)))
      (λ j lt ne. not_from_false _ (not_of k uid i j within refl lt ne))

  size : length es' + 1 ≡ length es
  size = fewer es i within

  size_free : length free' ≡ length free + 1
  size_free = length_push free place

  old : (a : ℕ) → entry_at es' a ≡ entry_at es (was i a)
  old a = at_was es i within a no_entry

  old_within : (a : ℕ) → a < length es' → was i a < length es
  old_within a lt = was_within es i within a lt

  old_free : (a : ℕ) → a < length free → get_or free' a 0 ≡ get_or free a 0
  old_free a lt = get_or_append_left free (place ∷ []) 0 a lt

  new_free : (a : ℕ) → length free ≤ a → a < length free' → get_or free' a 0 ≡ place
  new_free a le lt = (let m = size_free in get_or_push free place 0 a (omega arith))

  rising' : (a b : ℕ) → a < b → b < length es' → (entry_at es' a).uid < (entry_at es' b).uid
  rising' a b lt in_b = rw (old a, old b) (k.rising (was i a) (was i b) (was_up i a b lt) (old_within b in_b))

  free_apart' : (a b : ℕ) → a < b → b < length free' → get_or free' a 0 ≢ get_or free' b 0
  free_apart' a b lt in_b e = (let m = size_free in elim (cases_lt b (length free)) [
    | inl before ↦ k.free_apart a b lt before (sym (old_free a (omega arith)) ∙ e ∙ old_free b before)
    | inr last ↦ k.unused a i (omega arith) within (sym (old_free a (omega arith)) ∙ e ∙ new_free b last in_b)
  ])

  unused' : (a b : ℕ) → a < length free' → b < length es' → get_or free' a 0 ≢ (entry_at es' b).place
  unused' a b in_a in_b e =
      (let at : get_or free' a 0 ≡ (entry_at es (was i b)).place = e ∙ ap (λ (d : Entry). d.place) (old b) in
      elim (cases_lt a (length free)) [
        | inl before ↦ k.unused a (was i b) before (old_within b in_b) (sym (old_free a before) ∙ at)
        | inr last ↦ apart_places k i (was i b) within (old_within b in_b) (was_other i b)
            (sym at ∙ new_free a last in_a)
      ])

  still_named : (o : Option ℕ) (p : ℕ) → p ≢ place → IsNamed index.places o p → IsNamed index'.places o p
  still_named None p ne none = λ there. none ((places p).0 there).0
  still_named (Some d) p ne there = (places p).1 (there, ne)

  places' : (p : ℕ) → HasPlace index'.places p → IsPlace es' p
  places' p there = (let both : HasPlace index.places p × (p ≢ place) = (places p).0 there in
      let q = k.places p both.0 in
      let other : q.i ≢ i = λ e. both.1 (cc) in
      record {
        i = now i q.i;
        within = now_within es i within q.i q.within other;
        place_is = rw (old (now i q.i), was_now i q.i other) q.place_is;
      })

  pub kept_removed : IsKept nodes es' free' index' next
  kept_removed = record {
    uids = each_left es i within no_entry (λ e. (node_at nodes e.place).uid ≡ e.uid) (λ j lt ne. k.uids j lt);
    superiors = each_left es i within no_entry (λ e. (node_at nodes e.place).superior ≡ e.superior)
        (λ j lt ne. k.superiors j lt);
    within = each_left es i within no_entry (λ e. e.place < length nodes) (λ j lt ne. k.within j lt);
    rising = rising';
    below = each_left es i within no_entry (λ e. e.uid < next) (λ j lt ne. k.below j lt);
    free_within = each_pushed free place 0 (λ p. p < length nodes) k.free_within (k.within i within);
    free_apart = free_apart';
    unused = unused';
    count = (omega (arith, size, size_free, k.count));
    few = k.few;
    named = each_left es i within no_entry (λ e. IsNamed index'.places e.superior e.place)
        (λ j lt ne. still_named (entry_at es j).superior (entry_at es j).place (apart_places k i j within lt ne)
        (k.named j lt));
    places = places';
    order = order;
    branches = (let m = size in let p : length index.places + 1 ≡ length es = k.branches in omega arith);
    room = cc;
    tree = rw (view_removed, filter_map_same (λ n. not (eqb n.uid uid)) shape (newest nodes es))
        (tree_left uid (shapes (newest nodes es)) leaf k.tree);
  }

module _ {nodes : List Node} {es : List Entry} {free : List ℕ} {index : Places} {next : ℕ}
    (k : IsKept nodes es free index next) where
  pub removed_at : (uid i : ℕ) (e : Entry) → i < length es → e ≡ entry_at es i → (entry_at es i).uid ≡ uid
      → list_any (is_inferior uid) (shapes (newest nodes es)) ≡ false → (index' : Places)
      → IsOrdered nodes index'.places index'.hashes
      → ((p : ℕ) → HasPlace index'.places p ↔ (HasPlace index.places p × (p ≢ e.place)))
      → length index'.places + 1 ≡ length index.places → index'.room ≡ index.room
      → IsKept nodes (remove es i) (free ++ e.place ∷ []) index' next
      × (newest nodes (remove es i) ≡ without uid (newest nodes es))
  removed_at uid i e within same is_uid leaf index' order places count room =
      let leaf' = rw (← is_uid) at leaf in
      let places' = rw same at places in (
        rw same (kept_removed k i within index' leaf' order places' count room),
        rw (← is_uid) (view_removed k i within index' leaf' order places' count room),
      )

  -- the root is the only node without a superior
  pub not_root : (uid i : ℕ) (e : Entry)
      → i < length es → e ≡ entry_at es i → (entry_at es i).uid ≡ uid → e.superior ≡ None → uid ≡ 1
  not_root uid i e within same is_uid none =
      let shaped = find_map (λ n. eqb n.uid uid) shape (newest nodes es)
      ∙ ap (option_map shape) (node_found k uid i within is_uid) in
      (root_found (shapes (newest nodes es)) k.tree uid (shape (node_of_entry nodes es i)) shaped
      (cc (k.superiors i within))).0

  -- a node with a superior stands in the index
  pub named_at : (i : ℕ) (e : Entry) → i < length es → e ≡ entry_at es i
      → (s : ℕ) → e.superior ≡ Some s → HasPlace index.places e.place
  named_at i e within same s up = rw up at (rw (← same) at (k.named i within))
