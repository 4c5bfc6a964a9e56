-- The accounts' lists once a node is taken out.
use Rattle.machine_tables.proofs.Prelude.{◌≡◌, ◌≢◌, ℕ, ◌<◌, Bool, true, false, not, ◌&&◌, eqb, length, map, List, [], ◌∷◌, get_or, set, Option, Some, None, inl, inr, ◌⊎◌, refl, sym, ap, ◌∙◌, arith, remove, cases_Bool, cases_eq, cases_lt, eq-eqb, eqb-true, ne_eqb, get_or-set_other, get_or-set_same, length-remove, AccountMaps, HasColumns, count_of, Node, without_node, AreBelow, has_segment, has, look, without_beside, IsRising, has_remove, look_remove, rising_remove, remove_beside, Home, vtoc_in, AreHoused, home_of, is_there, lost, all_left, joined_below, place_there, and_false, eqb_self, Maps_entry_of as entry_of, IsNodeTree as IsTree, VtocEntry as Entry, Tied_uid_at as uid_at}
use lib.Seq.{set_out}
use Rattle.machine_tables.proofs.ColumnLaws.{columns_same, rising_same}

-- ---- a uid less

without_absent : (ks vs : List ℕ) (u : ℕ) → length vs ≡ length ks → has ks u ≡ false → without_beside ks vs u ≡ vs
without_absent (k ∷ ks) (v ∷ vs) u long off = elim (cases_Bool (eqb k u)) [
  | inl is ↦ cc
  | inr isnt ↦ rw isnt (cc (without_absent ks vs u (omega (arith, long)) (rw isnt at off)))
]
without_absent _ _ u long off = refl

-- a test that nothing passes leaves what it is beside
kept : (a b : Bool) → b ≡ false → a ≡ (a && not b)
kept a b h1 = grind arith

module _ (ks vs : List ℕ) (u : ℕ) (up : IsRising ks) (long : length vs ≡ length ks) where
  -- it is taken out at its place, or isn't there
  record Without (i : ℕ) : Type 0 where
    pub within : i < length ks
    pub at : get_or ks i 0 ≡ u
    pub keys : without_beside ks ks u ≡ remove ks i
    pub values : without_beside ks vs u ≡ remove vs i

  there : has ks u ≡ true → (i : ℕ) × Without i
  there h =
      let place = place_there ks u h in
      let within = place.1 in (
        place.0,
        assumption (
          ap (without_beside ks ks) (sym place.2) ∙ sym (remove_beside ks ks place.0 refl up within),
          ap (without_beside ks vs) (sym place.2) ∙ sym (remove_beside ks vs place.0 long up within),
        ),
      )

  pub rising_without : IsRising (without_beside ks ks u)
  rising_without = grind (arith, there, rising_remove, without_absent)

  pub has_without : (v : ℕ) → has (without_beside ks ks u) v ≡ (has ks v && not (eqb u v))
  has_without v = grind (arith, there, has_remove, without_absent, kept, ne_eqb)

  pub look_without : (v : ℕ) → v ≢ u → look (without_beside ks ks u) (without_beside ks vs u) v ≡ look ks vs v
  look_without v other = grind (arith, there, look_remove, without_absent)

  pub length_without : length (without_beside ks vs u) ≡ length (without_beside ks ks u)
  length_without = grind (arith, there, length-remove, without_absent)

-- ---- segments and their counts

segment_left : (ns : List Node) (u v : ℕ) → has_segment (without_node ns u) v ≡ (has_segment ns v && not (eqb u v))
segment_left [] u v = refl
segment_left (n ∷ ns) u v = elim (cases_eq n.uid u) [
  | inl same ↦ rw (eq-eqb n.uid u same, segment_left ns u v) (elim (cases_eq n.uid v) [
    | inl here ↦ rw (eq-eqb u v (cc)) (and_false (has_segment ns v) ∙ sym (and_false _))
    | inr there ↦ rw (ne_eqb n.uid v there)
  ])
  | inr other ↦ rw (ne_eqb n.uid u other) (elim (cases_eq n.uid v) [
    | inl here ↦ rw (eq-eqb n.uid v here) (kept _ _ (ne_eqb u v (λ e. other (cc))))
    | inr there ↦ rw (ne_eqb n.uid v there) (segment_left ns u v)
  ])
]

module _ (old new : AccountMaps) (uid : ℕ) (before : HasColumns old) (after : HasColumns new)
    (nodes : new.nodes ≡ without_node old.nodes uid)
    (counts : (s : ℕ) → s ≢ uid → count_of new s ≡ count_of old s) where
  segments_lost : new.segments ≡ without_beside old.segments old.segments uid
  segments_lost = rising_same new.segments (without_beside old.segments old.segments uid) after.rising
      (rising_without old.segments old.counts uid before.rising before.counted) (λ v. cc (
        after.segments v,
        segment_left old.nodes uid v,
        before.segments v,
        has_without old.segments old.counts uid before.rising before.counted v,
      ))

  counts_lost : new.counts ≡ without_beside old.segments old.counts uid
  counts_lost = columns_same (without_beside old.segments old.segments uid) new.counts
      (without_beside old.segments old.counts uid)
      (rising_without old.segments old.counts uid before.rising before.counted)
      (after.counted ∙ ap length segments_lost)
      (length_without old.segments old.counts uid before.rising before.counted) (λ v there. elim (cases_eq v uid) [
        | inl same ↦ cc (
          has_without old.segments old.counts uid before.rising before.counted v,
          eq-eqb uid v (sym same),
          and_false (has old.segments v),
        )
        | inr other ↦ cc (
          segments_lost,
          counts v other,
          look_without old.segments old.counts uid before.rising before.counted v other,
        )
      ])

-- ---- the VTOC entries beside the nodes

abbrev uids : List Node → List ℕ
uids ns = map (λ n. n.uid) ns

below_other : (ns : List Node) (u v : ℕ) → AreBelow u ns → is_there ns v ≡ true → u ≢ v
below_other [] u v below h e = cc
below_other (n ∷ ns) u v below h e = elim (cases_Bool (eqb n.uid v)) [
  | inl is ↦ (omega (arith, eqb-true n.uid v is))
  | inr isnt ↦ below_other ns u v below.1 (rw isnt at h) e
]

-- what is told of each node is told of the list
entries_same : (ns : List Node) → IsTree ns → (vs ws : List ℕ) → length vs ≡ length ns → length ws ≡ length ns
    → ((u : ℕ) → is_there ns u ≡ true → look (uids ns) vs u ≡ look (uids ns) ws u) → vs ≡ ws
entries_same [] t [] [] long many same = refl
entries_same (n ∷ ns) t (v ∷ vs) (w ∷ ws) long many same =
    let first : v ≡ w = cc (eqb_self n.uid, same n.uid (rw (eqb_self n.uid))) in
    let rest : vs ≡ ws = entries_same ns t.1 vs ws (omega arith) (omega arith) (λ u there.
    (let far : eqb n.uid u ≡ false = ne_eqb n.uid u
    (below_other ns n.uid u (joined_below ns n.superior n t.0) there) in cc (far, same u (rw far there)))) in
    λ i. first i ∷ rest i
entries_same ns t vs ws long many same = absurd (omega arith)

-- what is left isn't the node
there_left : (ns : List Node) (u v : ℕ) → is_there (without_node ns u) v ≡ true → v ≢ u
there_left [] u v h e = cc
there_left (n ∷ ns) u v h e = elim (cases_eq n.uid u) [
  | inl same ↦ there_left ns u v (rw (eq-eqb n.uid u same) at h) e
  | inr other ↦ there_left ns u v (rw (ne_eqb n.uid u other, ne_eqb n.uid v (λ is. other (is ∙ e))) at h) e
]

uids_left : (ns : List Node) → IsTree ns → (vs : List ℕ) (u v : ℕ) → v ≢ u
    → look (uids (without_node ns u)) (without_beside (uids ns) vs u) v ≡ look (uids ns) vs v
uids_left [] t vs u v ne = refl
uids_left (n ∷ ns) t [] u v ne = none (uids (without_node (n ∷ ns) u))
  where
    none : (ks : List ℕ) → look ks [] v ≡ 0
    none [] = refl
    none (k ∷ ks) = refl
uids_left (n ∷ ns) t (w ∷ vs) u v ne = elim (cases_eq n.uid u) [
  | inl same ↦ rw (
    eq-eqb n.uid u same,
    ne_eqb n.uid v (λ e. ne (cc)),
    all_left ns u (rw same at (joined_below ns n.superior n t.0)),
  )
  | inr other ↦ rw (ne_eqb n.uid u other, uids_left ns t.1 vs u v ne)
]

length_left : (ns : List Node) → IsTree ns → (vs : List ℕ) (u : ℕ) → length vs ≡ length ns
    → length (without_beside (uids ns) vs u) ≡ length (without_node ns u)
length_left [] t vs u long = long
length_left (n ∷ ns) t [] u long = absurd (omega arith)
length_left (n ∷ ns) t (w ∷ vs) u long = elim (cases_eq n.uid u) [
  | inl same ↦ rw (eq-eqb n.uid u same, all_left ns u (rw same at (joined_below ns n.superior n t.0))) (omega arith)
  | inr other ↦ rw (ne_eqb n.uid u other, length_left ns t.1 vs u (omega arith))
]

-- the accounts once a node is taken out
pub lost_is : (old new : AccountMaps) (uid : ℕ) → HasColumns old → HasColumns new → IsTree old.nodes
    → IsTree new.nodes → new.nodes ≡ without_node old.nodes uid → new.next ≡ old.next
    → ((s : ℕ) → s ≢ uid → count_of new s ≡ count_of old s)
    → ((v : ℕ) → is_there new.nodes v ≡ true → entry_of new v ≡ entry_of old v) → new ≡ lost old uid
lost_is old new uid before after tree now nodes next counts entries =
    grind (arith, segments_lost, counts_lost, entries_same, length_left, there, uids_left, there_left)

-- ---- homes

set_cases : {X : Type 0} (xs : List X) (i j : ℕ) (x d : X)
    → (get_or (set xs i x) j d ≡ get_or xs j d) ⊎ ((j ≡ i) × (get_or (set xs i x) j d ≡ x))
set_cases xs i j x d = elim (cases_eq j i) [
  | inl same ↦ elim (cases_lt i (length xs))
      [ inl lt ↦ inr (same, rw (same, get_or-set_same)) | inr le ↦ inl (rw (set_out xs i x le)) ]
  | inr other ↦ inl (rw get_or-set_other)
]

-- a home that is used once an entry is free was used before
still_used : (vtocs : List (List (Option Entry))) (home other : Home) (v : ℕ)
    → uid_at (set vtocs home.volume (set (vtoc_in vtocs home.volume) home.entry None)) other ≡ Some v
    → uid_at vtocs other ≡ Some v
still_used vtocs home other v h = grind (arith, set_cases)

-- each node that is left has the entry that it had
pub entry_kept : (old new : AccountMaps) (vtocs now : List (List (Option Entry))) (uid : ℕ) → AreHoused old vtocs
    → AreHoused new now → now ≡ set vtocs (home_of old uid).volume
    (set (vtoc_in vtocs (home_of old uid).volume) (home_of old uid).entry None)
    → (v : ℕ) → is_there new.nodes v ≡ true → entry_of new v ≡ entry_of old v
entry_kept old new vtocs now uid before after is v there =
    ap (λ (home : Home). home.entry) (before.only (home_of new v) v
    (still_used vtocs (home_of old uid) (home_of new v) v (rw is at (after.homes v there))))
