-- The victim of a pool has no active inferior: the ways down from a segment come to an end.
use Rattle.machine_model.proofs.Basics.{◌≡◌, ◌≢◌, ◌<◌, ◌≤◌, ℕ, zero, suc, ◌+◌, Bool, true, false, count_by, List, eqb, not, length, Option, Some, None, inl, inr, refl, sym, ap, subst, ◌∙◌, arith, nat_lt, range_with_len, list_any, eqb_tells, leb_tells, Node, node_in, ActiveSegs, HasNoInferior, entry_at, superior_at, uid_at, uid_in, first_off_chain, is_inferior_in, is_inferior_of, leaf_below, leaf_of, least_inferior, least_inferior_of, off_chain, round_pool, stead_of, victim_of, place_of, node_superior, Keeps, flat_of, is_active, State, lt_from, not_both, passed_there, Active as Entry, ActiveIsTree as IsTree, active_superior_in as superior_in, eqb_self, none_some}
use Rattle.machine_model.proofs.ActiveSeen.{active_place}
use Rattle.machine_model.proofs.FindLaws.{find_true, position_at, position_none}
use Rattle.machine_model.proofs.PoolRoom.{count_all, count_new, range_has, range_length}

tells_less : (a b : ℕ) → a < b → nat_lt a b ≡ true
tells_less a b h = elim (leb_tells (suc a) b) [
  | inl e ↦ e.0
  | inr n ↦ (let le = n.1 in absurd (omega arith))
]

not_less_self : (a : ℕ) → nat_lt a a ≡ false
not_less_self a = elim (leb_tells (suc a) a) [
  | inl e ↦ (let le = e.1 in absurd (omega arith))
  | inr n ↦ n.0
]

module _ (entries : List (Option Entry)) (tree : IsTree entries) where
  abbrev rank : ℕ → ℕ
  rank = tree.grounded.0

  -- a segment of a higher rank
  abbrev is_higher : ℕ → Option ℕ → Bool
  is_higher r None = false
  is_higher r (Some u) = nat_lt r (rank u)

  abbrev higher : ℕ → ℕ → Bool
  higher u q = is_higher (rank u) (uid_at entries q)

  abbrev places : List ℕ
  places = range_with_len 0 (length entries)

  -- an entry that is there
  some_entry : (o : Option Entry) (u : ℕ) → superior_in o ≡ Some u → (v : ℕ) × (uid_in o ≡ Some v)
  some_entry None u h = cc
  some_entry (Some e) u h = (e.uid, refl)

  inferior_tells : (u : ℕ) (o : Option Entry) → is_inferior_of u o ≡ true → superior_in o ≡ Some u
  inferior_tells u o h = by (superior_in o) refl h
    where
      by : (x : Option ℕ) → superior_in o ≡ x → is_inferior_in u x ≡ true → superior_in o ≡ Some u
      by None e i = cc
      by (Some w) e i = elim (eqb_tells w u) [
        | inl x ↦ e ∙ ap (λ (y : ℕ). Some y) x.1
        | inr n ↦ absurd (not_both i n.0)
      ]

  -- where nothing is found there is no inferior
  none_below : (place u : ℕ) → uid_at entries place ≡ Some u → least_inferior entries place ≡ None
      → HasNoInferior entries place
  none_below place u at none q v same h = not_both (ap (is_inferior_in u) (h ∙ sym (sym at ∙ same)) ∙ eqb_self u)
      (position_none (is_inferior_of u) entries None q (sym (ap (least_inferior_of entries) at) ∙ none) refl)

  -- an inferior has a higher rank, so fewer segments are above it
  goes_up : (place u q : ℕ) → uid_at entries place ≡ Some u → least_inferior entries place ≡ Some q
      → (w : ℕ) × (uid_at entries q ≡ Some w) × (count_by (higher w) places + 1 ≤ count_by (higher u) places)
  goes_up place u q at e = (
    w,
    its,
    count_new (higher w) (higher u) places q more
        (range_has 0 (length entries) q (omega arith) (omega (arith, found.0)))
        (cc (its, not_less_self (rank w))) (ap (is_higher (rank u)) its ∙ tells_less _ _ up),
  )
    where
      found : (q < length entries) × (is_inferior_of u (entry_at entries q) ≡ true)
      found = position_at (is_inferior_of u) entries None q (sym (ap (least_inferior_of entries) at) ∙ e)

      sup : superior_at entries q ≡ Some u
      sup = inferior_tells u (entry_at entries q) found.1

      w : ℕ
      w = (some_entry (entry_at entries q) u sup).0

      its : uid_at entries q ≡ Some w
      its = (some_entry (entry_at entries q) u sup).1

      up : rank u < rank w
      up = tree.grounded.1 q w u its sup

      more : (x : ℕ) → higher w x ≡ true → higher u x ≡ true
      more x h = by (uid_at entries x) h
        where
          by : (y : Option ℕ) → is_higher (rank w) y ≡ true → is_higher (rank u) y ≡ true
          by None i = i
          by (Some y) i = tells_less (rank u) (rank y) (omega (arith, (lt_from (rank w) (rank y) i), up))

  -- where there is no inferior the way ends
  stays : (steps place : ℕ) → least_inferior entries place ≡ None → leaf_below entries steps place ≡ place
  unfolding leaf_below
  stays zero place none = refl
  stays (suc steps) place none = cc (stays steps place none)

  -- a place that has a segment without inferior
  record IsLeaf (place : ℕ) : Type 0 where
    uid : ℕ
    here : uid_at entries place ≡ Some uid
    leaf : HasNoInferior entries place

  -- so many steps down are enough
  comes_down : (steps place u : ℕ) → uid_at entries place ≡ Some u → count_by (higher u) places ≤ steps
      → IsLeaf (leaf_below entries steps place)
  unfolding leaf_below
  comes_down zero place u at few = by (least_inferior entries place) refl
    where
      by : (x : Option ℕ) → least_inferior entries place ≡ x → IsLeaf place
      by None e = record { uid = u; here = at; leaf = none_below place u at e }
      by (Some q) e = let more = (goes_up place u q at e).2 in absurd (omega arith)
  comes_down (suc steps) place u at few = by (least_inferior entries place) refl (λ q w i f. comes_down steps q w i f)
    where
      by : (x : Option ℕ) → least_inferior entries place ≡ x
          → ((q w : ℕ) → uid_at entries q ≡ Some w → count_by (higher w) places ≤ steps
          → IsLeaf (leaf_below entries steps q)) → IsLeaf (leaf_below entries steps (stead_of place x))
      by None e rest = subst IsLeaf (sym (stays steps place e))
          (record { uid = u; here = at; leaf = none_below place u at e })
      by (Some q) e rest = let up = goes_up place u q at e in rest q up.0 up.1 (omega (arith, few, up.2))

  leaf_is : (place u : ℕ) → uid_at entries place ≡ Some u → IsLeaf (leaf_below entries (length entries) place)
  leaf_is place u at = comes_down (length entries) place u at (omega (
    arith,
    count_all (higher u) places,
    range_length 0 (length entries),
  ))

-- ---- the victim of a pool

-- the victim has a segment, of which no active one is the inferior
pub victim_leaf : (ast : ActiveSegs) (pool : ℕ) (chain : List ℕ) (place : ℕ) → IsTree ast.entries
    → victim_of ast pool chain ≡ Some place
    → (u : ℕ) × (uid_at ast.entries place ≡ Some u) × HasNoInferior ast.entries place
victim_leaf ast pool chain place tree h = by (first_off_chain ast pool chain) refl h
  where
    by : (x : Option ℕ) → first_off_chain ast pool chain ≡ x → leaf_of ast.entries x ≡ Some place
        → (u : ℕ) × (uid_at ast.entries place ≡ Some u) × HasNoInferior ast.entries place
    by None e i = cc
    by (Some first) e i =
        let used = passed_there (λ (x : Entry). not (list_any (λ v. eqb v x.uid) chain)) (entry_at ast.entries first)
        (find_true (λ q. off_chain chain (entry_at ast.entries q)) (round_pool ast pool) first e) in
        let leaf = leaf_is ast.entries tree first used.0.uid (ap uid_in used.1) in
        let same : leaf_below ast.entries (length ast.entries) first ≡ place = cc in (
          leaf.uid,
          rw (← same) leaf.here,
          rw (← same) leaf.leaf,
        )

-- ---- what may become inactive

-- no active segment lies below the one of a leaf
pub leaf_inferiors : (s : State) (place u : ℕ) → Keeps s → uid_at s.store.ast.entries place ≡ Some u
    → HasNoInferior s.store.ast.entries place → (v : ℕ) → is_active s.store.ast v ≡ true
    → node_superior (node_in (flat_of s).nodes v) ≢ Some u
leaf_inferiors s place u k at leaf v active h = by (node_in s.store.accounts.nodes v) refl (cc)
  where
    by : (x : Option Node) → node_in s.store.accounts.nodes v ≡ x → node_superior x ≡ Some u → ⊥
    by None e i = none_some i
    by (Some n) e i = leaf (place_of s.store.ast.entries v) u at (k.store.counted.active.superiors
        (place_of s.store.ast.entries v) v n ((active_place s.store.ast v active).1) e ∙ i)
