-- The victim of a full pool: there is one, and it isn't a link of the chain for which the pool is to have room.
use Rattle.machine_model.proofs.Laws.{or_left, eqb_self, not-true, eqb-true, range_with_len, cases_Bool, ◌≡◌, ◌≢◌, ◌<◌, ◌≤◌, ℕ, zero, suc, ◌+◌, ◌-◌, Bool, true, false, not, cond, eqb, List, [], ◌∷◌, length, reverse, is_some, is_none, Option, Some, None, ◌⊎◌, inl, inr, refl, sym, ap, subst, ◌∙◌, arith, Contains, take, position, nat_le, list_any, cases_lt, eqb_tells, length-reverse, sum_by-cons, ArePools, Node, above, has_directory, node_in, pool_for, pool_of, step_up, AreDirectories, IsChain, IsTree, IsMember, found_member, member_found, member_left, member_parts, member_right, has_chains, above_once, depth, superior_found, chain_of, ActiveSegs, entry_at, uid_at, uid_in, IsInPool, first_of, size_of, HasOneOffChain, first_off_chain, hand_of, is_inferior_in, is_inferior_of, leaf_below, leaf_of, least_inferior, off_chain, places_from, round_pool, stead_of, victim_of, Keeps, IsMachine, first_inactive, free_place, is_active, places_in, State, not_both, passed_there, tree_laws_superior_in as superior_in, Active as Entry, same_Some, turned, first_idle, find_true, position_at, range_has, none_some}
use Rattle.machine_model.proofs.TransferKept.{active_at}
use Rattle.machine_model.proofs.OffChain.{pool_one_off}
use Rattle.active_segs.specs.Active as active

-- ---- links

abbrev pub is_link : List ℕ → ℕ → Bool
is_link chain u = list_any (λ v. eqb v u) chain

pub link_member : (chain : List ℕ) (u : ℕ) → is_link chain u ≡ true → IsMember u chain
link_member [] u h = absurd (let none : false ≡ true = h in cc)
link_member (x ∷ xs) u h = elim (eqb_tells x u) [
  | inl e ↦ inl (sym e.1)
  | inr n ↦ inr (link_member xs u (cc))
]

pub member_link : (chain : List ℕ) (u : ℕ) → IsMember u chain → is_link chain u ≡ true
member_link [] u h = absurd h
member_link (x ∷ xs) u (inl e) = or_left (eqb x u) (is_link xs u) (rw e (eqb_self x))
member_link (x ∷ xs) u (inr m) = elim (cases_Bool (eqb x u)) [
  | inl e ↦ rw e refl
  | inr e ↦ rw e (member_link xs u m)
]

pub member_contains : (xs : List ℕ) (u : ℕ) → IsMember u xs → Contains xs u
member_contains [] u h = absurd h
member_contains (x ∷ xs) u (inl e) = (0, omega arith, sym e)
member_contains (x ∷ xs) u (inr m) = let rest = member_contains xs u m in (
  suc rest.0,
  omega arith,
  rest.2,
)

-- a member of a row of numbers
pub in_range_is : (from n x : ℕ) → IsMember x (range_with_len from n) → (from ≤ x) × (x < from + n)
in_range_is from zero x m = absurd m
in_range_is from (suc n) x (inl e) = let same = e in (omega arith, omega arith)
in_range_is from (suc n) x (inr m) = let rest = in_range_is (from + 1) n x m in let a = rest.0 in let b = rest.1 in
    (omega arith, omega arith)

turn_member : (ys : List ℕ) (v : ℕ) → IsMember v (reverse ys) → IsMember v ys
turn_member [] v m = m
turn_member (y ∷ ys) v m = elim (member_parts v (reverse ys) (y ∷ []) (rw (← (turned y ys)) m)) [
  | inl front ↦ inr (turn_member ys v front)
  | inr back ↦ elim back [ inl e ↦ inl e | inr none ↦ absurd none ]
]

pub back_member : (ys : List ℕ) (v : ℕ) → IsMember v ys → IsMember v (reverse ys)
back_member [] v m = m
back_member (y ∷ ys) v (inl e) = subst (IsMember v) (sym (turned y ys)) (member_right v (reverse ys) (y ∷ []) (inl e))
back_member (y ∷ ys) v (inr m) = rw (turned y ys) (member_left v (reverse ys) (y ∷ []) (back_member ys v m))

-- ---- entries

pub some_there : {A : Type 0} (o : Option A) → is_some o ≡ true → (x : A) × (o ≡ Some x)
some_there None h = cc
some_there (Some x) h = (x, refl)

some_entry : (o : Option Entry) (u : ℕ) → active.superior_in o ≡ Some u → (v : ℕ) × (uid_in o ≡ Some v)
some_entry None u h = cc
some_entry (Some e) u h = (e.uid, refl)

inferior_tells : (u : ℕ) (o : Option Entry) → is_inferior_of u o ≡ true → active.superior_in o ≡ Some u
inferior_tells u o h = by (active.superior_in o) h
  where
    by : (x : Option ℕ) → is_inferior_in u x ≡ true → x ≡ Some u
    by None i = cc
    by (Some w) i = ap (λ (y : ℕ). Some y) (eqb-true w u i)

-- ---- chains

module _ (ns : List Node) (t : IsTree ns) where
  -- what lies above a link is one
  member_up : (xs : List ℕ) (v : ℕ) {w : ℕ} → IsChain (above ns) xs → IsMember v xs → superior_in ns v ≡ Some w
      → IsMember w xs
  member_up [] v chain m h = absurd m
  member_up (x ∷ xs) v chain (inl e) h = inr (rw (chain.0 ∙ (ap (above ns) (sym e)
      ∙ (above_once ns t v ∙ ap (step_up (above ns)) h))) (inl refl))
  member_up (x ∷ xs) v {w} chain (inr m) h = inr (member_up xs v chain.2 m h)

  pub link_up : (u v : ℕ) {w : ℕ} → IsMember v (chain_of ns u) → superior_in ns v ≡ Some w → IsMember w (chain_of ns u)
  link_up u v {w} m h = back_member (u ∷ above ns u) w (member_up (u ∷ above ns u) v
      (refl, (has_chains ns t).under u, (has_chains ns t).chain u) (turn_member (u ∷ above ns u) v m) h)

  -- a chain ends at what it is the chain of, and has ten links at the most
  pub chain_ends : (u : ℕ) → Contains (chain_of ns u) u
  chain_ends u = member_contains (chain_of ns u) u (back_member (u ∷ above ns u) u (inl refl))

  pub chain_few : (u : ℕ) → length (chain_of ns u) ≤ 10
  chain_few u = omega (arith, length-reverse (u ∷ above ns u), depth ns t u)

  -- a link is the end, or a directory
  link_directory : (u v : ℕ) → IsMember v (chain_of ns u) → (v ≡ u) ⊎ (has_directory ns v ≡ true)
  link_directory u v m = elim (turn_member (u ∷ above ns u) v m) [
    | inl e ↦ inl e
    | inr i ↦ inr (each (above ns u) ((has_chains ns t).directories u) i)
  ]
    where
      each : (xs : List ℕ) → AreDirectories ns xs → IsMember v xs → has_directory ns v ≡ true
      each [] dirs i = absurd i
      each (x ∷ xs) dirs (inl e) = cc
      each (x ∷ xs) dirs (inr i) = each xs dirs.1 i

-- whether a node is a directory
pub directory_is : (ns : List Node) (u : ℕ) (n : Node) → node_in ns u ≡ Some n → has_directory ns u ≡ n.directory
directory_is [] u n h = cc
directory_is (x ∷ xs) u n h = elim (cases_Bool (eqb x.uid u)) [
  | inl is ↦ rw is (cc (same_Some x n (rw is at h)))
  | inr isnt ↦ rw isnt (directory_is xs u n (rw isnt at h))
]

-- ---- what isn't in a chain

module _ (s : State) (keeps : Keeps s) (about : ℕ) where
  abbrev ns : List Node
  ns = s.store.accounts.nodes

  abbrev entries : List (Option Entry)
  entries = s.store.ast.entries

  abbrev chain : List ℕ
  chain = chain_of ns about

  abbrev is_off : ℕ → Bool
  is_off place = off_chain chain (entry_at entries place)

  off_uid : (o : Option Entry) (u : ℕ) → off_chain chain o ≡ true → uid_in o ≡ Some u → is_link chain u ≡ false
  off_uid None u h e = cc
  off_uid (Some x) u h e = let same : x.uid ≡ u = cc in not-true (is_link chain u) (rw same at h)

  uid_off : (o : Option Entry) {u : ℕ} → uid_in o ≡ Some u → is_link chain u ≡ false → off_chain chain o ≡ true
  uid_off None e h = cc
  uid_off (Some x) {u} e h = let same : x.uid ≡ u = cc in ap not (ap (is_link chain) same ∙ h)

  superior_is : (q : ℕ) {w u : ℕ} → uid_at entries q ≡ Some w → active.superior_at entries q ≡ Some u
      → superior_in ns w ≡ Some u
  superior_is q {w} at sup = let n = some_there (node_in ns w) (keeps.store.counted.active.there q w at) in
      superior_found ns w n.0 n.1 ∙ (sym (keeps.store.counted.active.superiors q w n.0 at n.1) ∙ sup)

  off_step : (place : ℕ) {q : ℕ} → is_off place ≡ true → least_inferior entries place ≡ Some q → is_off q ≡ true
  off_step place {q} off h = let used = passed_there (λ (e : Entry). not (list_any (λ v. eqb v e.uid) chain))
      (entry_at entries place) off in
      by used.0.uid (ap uid_in used.1) (cc)
    where
      by : (u : ℕ) → uid_at entries place ≡ Some u → position (is_inferior_of u) entries ≡ Some q → is_off q ≡ true
      by u at i =
          let sup = inferior_tells u (entry_at entries q) (position_at (is_inferior_of u) entries None q i).1 in
          let w = some_entry (entry_at entries q) u sup in
          uid_off (entry_at entries q) w.1 (elim (cases_Bool (is_link chain w.0)) [
            | inl e ↦ absurd (not_both (member_link chain u (link_up ns keeps.store.accounts.tree about w.0
                (link_member chain w.0 e)
                (superior_is q w.1 sup))) (off_uid (entry_at entries place) u off at))
            | inr e ↦ e
          ])

  off_steps : (steps place : ℕ) → is_off place ≡ true → is_off (leaf_below entries steps place) ≡ true
  unfolding leaf_below
  off_steps zero place off = off
  off_steps (suc steps) place off = off_steps steps (stead_of place (least_inferior entries place))
      (by (least_inferior entries place) refl)
    where
      by : (x : Option ℕ) → least_inferior entries place ≡ x → is_off (stead_of place x) ≡ true
      by None e = off
      by (Some q) e = off_step place off e

  pub victim_is_off : (pool : ℕ) {place : ℕ} → victim_of s.store.ast pool chain ≡ Some place → is_off place ≡ true
  victim_is_off pool {place} h = by (first_off_chain s.store.ast pool chain) refl h
    where
      by : (x : Option ℕ) → first_off_chain s.store.ast pool chain ≡ x → leaf_of entries x ≡ Some place
          → is_off place ≡ true
      by None e i = cc
      by (Some first) e i = let same : leaf_below entries (length entries) first ≡ place = cc in
          rw (← same) (off_steps (length entries) first
          (find_true (λ q. off_chain chain (entry_at entries q)) (round_pool s.store.ast pool) first e))

-- ---- a pool has a victim

module _ (ast : ActiveSegs) (pool : ℕ) where
  in_round : {q : ℕ} → IsInPool ast.sizes pool q → IsMember q (round_pool ast pool)
  in_round {q} h = elim (cases_lt q (hand_of ast pool)) [
    | inl lt ↦ (let from = h.from in
        member_right q (places_from (hand_of ast pool) (first_of ast.sizes pool + size_of ast.sizes pool)) _
        (range_has (first_of ast.sizes pool) (hand_of ast pool - first_of ast.sizes pool) q from (omega arith)))
    | inr le ↦ (let to = h.to in member_left q _ (places_from (first_of ast.sizes pool) (hand_of ast pool))
        (range_has (hand_of ast pool) (first_of ast.sizes pool + size_of ast.sizes pool - hand_of ast pool) q
        (omega arith) (omega arith)))
  ]

  some_victim : {chain : List ℕ} → HasOneOffChain ast pool chain → victim_of ast pool chain ≢ None
  some_victim {chain} one h = by (first_off_chain ast pool chain) refl h
    where
      by : (x : Option ℕ) → first_off_chain ast pool chain ≡ x → leaf_of ast.entries x ≡ None → ⊥
      by None e i = member_found (λ q. off_chain chain (entry_at ast.entries q)) (round_pool ast pool) one.place
          (in_round one.in_pool) one.off e
      by (Some q) e i = none_some (sym i)

  pub all_used : free_place ast pool ≡ None → (q : ℕ) → IsInPool ast.sizes pool q
      → is_some (entry_at ast.entries q) ≡ true
  all_used full q h = by (entry_at ast.entries q) refl
    where
      by : (o : Option Entry) → entry_at ast.entries q ≡ o → is_some o ≡ true
      by None e = absurd (member_found (λ p. is_none (entry_at ast.entries p)) (places_in ast pool) q
          (range_has (first_of ast.sizes pool) _ q h.from (omega arith)) (cc) full)
      by (Some e) i = refl

pool_some : (sizes : List ℕ) → ArePools sizes → (n : Node) → 0 < size_of sizes (pool_of n)
pool_some (a ∷ b ∷ c ∷ d ∷ []) h n = by n.directory (nat_le n.pages 4) (nat_le n.pages 16) (nat_le n.pages 64)
  where
    by : (x y z w : Bool) → 0 < size_of (a ∷ b ∷ c ∷ d ∷ []) (cond x 0 (cond y 0 (cond z 1 (cond w 2 3))))
    by true y z w = omega arith
    by false true z w = omega arith
    by false false true w = omega arith
    by false false false true = omega arith
    by false false false false = omega arith
pool_some _ h n = absurd h

pub first_pool : (sizes : List ℕ) → ArePools sizes → 12 ≤ size_of sizes 0
first_pool (a ∷ b ∷ c ∷ d ∷ []) h = omega arith
first_pool _ h = absurd h

-- a place of another pool isn't one of the first
apart : (sizes : List ℕ) (pool : ℕ) {q : ℕ} → pool ≢ 0 → IsInPool sizes 0 q → IsInPool sizes pool q → ⊥
apart sizes zero other a b = other refl
apart [] (suc pool) other a b = omega arith
apart (x ∷ xs) (suc pool) other a b = omega (arith, sum_by-cons (λ y. y) x (take pool xs))

module _ (s : State) (m : IsMachine s) (about wanted : ℕ) where
  abbrev nodes : List Node
  nodes = s.store.accounts.nodes

  whole : IsTree nodes
  whole = m.keeps.store.accounts.tree

  -- a directory is in the first pool
  directory_pool : (u : ℕ) (n : Node) → node_in nodes u ≡ Some n → has_directory nodes u ≡ true → pool_of n ≡ 0
  directory_pool u n at dir = ap (λ (b : Bool). cond b 0 (pool_for n.pages)) (sym (directory_is nodes u n at) ∙ dir)

  module _ (first : first_inactive s.store.ast (chain_of nodes about) ≡ Some wanted) (n : Node)
      (at : node_in nodes wanted ≡ Some n) (full : free_place s.store.ast (pool_of n) ≡ None) where
    pools : ArePools s.store.ast.sizes
    pools = subst ArePools (sym m.pools) m.script.pools

    -- a link whose segment is active is in the first pool, where the wanted one isn't
    link_in_first : (u q : ℕ) → pool_of n ≢ 0 → uid_at s.store.ast.entries q ≡ Some u
        → IsMember u (chain_of nodes about) → IsInPool s.store.ast.sizes 0 q
    link_in_first u q other here member = elim (link_directory nodes whole about u member) [
      | inl e ↦ absurd (not_both (active_at s.store.ast q u here) (elim (link_directory nodes whole about wanted
          (found_member (λ w. not (is_active s.store.ast w)) (chain_of nodes about) wanted first)) [
            | inl i ↦ ap (is_active s.store.ast) (e ∙ sym i)
                ∙ first_idle s.store.ast (chain_of nodes about) wanted first
            | inr i ↦ absurd (other (directory_pool wanted n at i))
          ]))
      | inr dir ↦ (let y = some_there (node_in nodes u) (m.keeps.store.counted.active.there q u here) in
          rw (directory_pool u y.0 y.1 dir) at (m.keeps.store.counted.active.pools q u y.0 here y.1))
    ]

    one_off : HasOneOffChain s.store.ast (pool_of n) (chain_of nodes about)
    one_off = elim (eqb_tells (pool_of n) 0) [
      | inl e ↦ pool_one_off s.store.ast (pool_of n) (chain_of nodes about) m.keeps.store.kept.tree.once used (few e.1)
      | inr other ↦ other_pool other.1
    ]
      where
        used : (i : ℕ) → i < size_of s.store.ast.sizes (pool_of n)
            → is_some (entry_at s.store.ast.entries (first_of s.store.ast.sizes (pool_of n) + i)) ≡ true
        used i lt = all_used s.store.ast (pool_of n) full (first_of s.store.ast.sizes (pool_of n) + i)
            (record { from = omega arith; to = omega arith })

        few : pool_of n ≡ 0 → length (chain_of nodes about) < size_of s.store.ast.sizes (pool_of n)
        few e = let links = chain_few nodes whole about in let places = first_pool s.store.ast.sizes pools in
            rw e (omega (arith, places))

        other_pool : pool_of n ≢ 0 → HasOneOffChain s.store.ast (pool_of n) (chain_of nodes about)
        other_pool other = record {
          place = first_of s.store.ast.sizes (pool_of n);
          in_pool = inside;
          off = by (entry_at s.store.ast.entries (first_of s.store.ast.sizes (pool_of n))) refl
              (all_used s.store.ast (pool_of n) full (first_of s.store.ast.sizes (pool_of n)) inside);
        }
          where
            inside : IsInPool s.store.ast.sizes (pool_of n) (first_of s.store.ast.sizes (pool_of n))
            inside = record {
              from = omega arith;
              to = omega (arith, pool_some s.store.ast.sizes pools n);
            }

            by : (o : Option Entry) → entry_at s.store.ast.entries (first_of s.store.ast.sizes (pool_of n)) ≡ o
                → is_some o ≡ true → off_chain (chain_of nodes about) o ≡ true
            by None e i = absurd (let none : false ≡ true = i in cc)
            by (Some x) e i = elim (cases_Bool (is_link (chain_of nodes about) x.uid)) [
              | inl j ↦ absurd (apart s.store.ast.sizes (pool_of n) other
                  (link_in_first x.uid (first_of s.store.ast.sizes (pool_of n)) other (ap uid_in e)
                  (link_member (chain_of nodes about) x.uid j)) inside)
              | inr j ↦ ap not j
            ]

    -- the full pool of the first link that isn't active has a victim
    pub has_victim : victim_of s.store.ast (pool_of n) (chain_of nodes about) ≢ None
    has_victim = some_victim s.store.ast (pool_of n) one_off
