-- The chain of a node, and the next segment of it that becomes active.
use Rattle.storage_ops.proofs.Prelude.{◌≡◌, ◌≢◌, ℕ, zero, suc, ◌-◌, ◌<◌, ◌≤◌, true, eqb, List, [], ◌∷◌, length, Option, Some, None, get_or, set, refl, sym, ap, subst, ◌∙◌, arith, inl, inr, cases_Bool, cases_eq, get_or-reverse, get_or-set_other, length-map, length-reverse, AccountMaps, chain_of, Mode, Who, Plan, Store, Node, above, has_directory, node_in, pool_of, step_up, IsTree, IsUp, above_once, depth, superior_up, superior_found, Present, sdw_at, Entry, ActiveSegs, superior_of_entry, uid_in_place, uid_in, IsInPool, first_off_chain, hand_past, Plain, plain, map_at, uid_homed, Link, Next, Activated, Victim, Whole, Control, Links, leads, sdws_at, AreLinked, IsNext, MayActivate, link_at, no_link, superior_of, uids_of, HasOneToGo, IsChainDown, link_of, pool_in, AreInTree, IsStore, Shows, Storage, home_of, is_there, pages_in, pages_of, List_get_or-map as get_or-map, TreeLaws_superior_in as superior_in, entry_in_place as entry_at, Next_words_in as words_in}
use Rattle.storage_ops.proofs.Homes.{filed_map}
use Rattle.storage_ops.proofs.Known.{set_told}
use Rattle.storage_ops.proofs.NodeLaws.{found_there}
use Rattle.storage_ops.proofs.PageFacts.{directory_found, room_of}
use Rattle.storage_ops.proofs.Still.{store_still}
use Rattle.storage_ops.proofs.Tables.{homed_volume}

-- ---- what lies above each

some_first : (f : ℕ → List ℕ) (o : Option ℕ) {y : ℕ} (ys : List ℕ) → step_up f o ≡ y ∷ ys → (o ≡ Some y) × (f y ≡ ys)
some_first f None ys e = cc
some_first f (Some s) {y} ys e =
    let first : s ≡ y = cc in (cc, cc)

none_first : (f : ℕ → List ℕ) (o : Option ℕ) → step_up f o ≡ [] → o ≡ None
none_first f None e = refl
none_first f (Some s) e = cc

module _ (ns : List Node) (t : IsTree ns) where
  step : (x : ℕ) {xs : List ℕ} → above ns x ≡ xs → step_up (above ns) (superior_in ns x) ≡ xs
  step x e = sym (above_once ns t x) ∙ e

  -- each superior is the next one up, and there is none above the last
  next_up : (x : ℕ) {xs : List ℕ} → above ns x ≡ xs → (j : ℕ) → j < length xs
      → superior_in ns (get_or (x ∷ xs) j 0) ≡ Some (get_or xs j 0)
  next_up x {xs = []} e j lt = absurd (omega arith)
  next_up x {xs = y ∷ ys} e zero lt = (some_first (above ns) (superior_in ns x) ys (step x e)).0
  next_up x {xs = y ∷ ys} e (suc j) lt = next_up y (some_first (above ns) (superior_in ns x) ys (step x e)).1
      j (omega arith)

  last_up : (x : ℕ) (xs : List ℕ) → above ns x ≡ xs → superior_in ns (get_or (x ∷ xs) (length xs) 0) ≡ None
  last_up x [] e = none_first (above ns) (superior_in ns x) (step x e)
  last_up x (y ∷ ys) e = last_up y ys (some_first (above ns) (superior_in ns x) ys (step x e)).1

  -- from the root down
  pub chain_length : (u : ℕ) → length (chain_of ns u) ≤ 10
  chain_length u = (omega (arith, length-reverse (u ∷ above ns u), depth ns t u))

  pub chain_first : (u : ℕ) → superior_in ns (get_or (chain_of ns u) 0 0) ≡ None
  chain_first u = ap (superior_in ns) (get_or-reverse (u ∷ above ns u) 0 0 (omega arith)
      ∙ ap (λ (k : ℕ). get_or (u ∷ above ns u) k 0) (omega arith)) ∙ last_up u (above ns u) refl

  pub chain_next : (u i : ℕ) → suc i < length (chain_of ns u)
      → superior_in ns (get_or (chain_of ns u) (suc i) 0) ≡ Some (get_or (chain_of ns u) i 0)
  chain_next u i lt =
      let long = length-reverse (u ∷ above ns u) in
      let place : length (u ∷ above ns u) - 1 - i ≡ suc (length (u ∷ above ns u) - 1 - suc i) = omega arith in
      cc (
        get_or-reverse (u ∷ above ns u) (suc i) 0 (omega arith),
        next_up u refl (length (u ∷ above ns u) - 1 - suc i) (omega arith),
        get_or-reverse (u ∷ above ns u) i 0 (omega arith),
      )

  -- each is there
  directory_there : (ms : List Node) (u : ℕ) → has_directory ms u ≡ true → is_there ms u ≡ true
  directory_there [] u e = cc
  directory_there (n ∷ ms) u e = elim (cases_Bool (eqb n.uid u)) [
    | inl is ↦ rw is refl
    | inr isnt ↦ rw isnt (directory_there ms u (rw isnt at e))
  ]

  there_up : (x : ℕ) {xs : List ℕ} → above ns x ≡ xs → is_there ns x ≡ true → (j : ℕ) → j < length (x ∷ xs)
      → is_there ns (get_or (x ∷ xs) j 0) ≡ true
  there_up x e there zero lt = there
  there_up x {xs = []} e there (suc j) lt = absurd (omega arith)
  there_up x {xs = y ∷ ys} e there (suc j) lt =
      let first = some_first (above ns) (superior_in ns x) ys (step x e) in
      there_up y first.1 (directory_there ns y (subst (IsUp ns x) first.0 (superior_up ns t x)).1) j (omega arith)

  pub chain_there : (u : ℕ) → is_there ns u ≡ true → (i : ℕ) → i < length (chain_of ns u)
      → is_there ns (get_or (chain_of ns u) i 0) ≡ true
  chain_there u there i lt =
      let long = length-reverse (u ∷ above ns u) in
      cc (
        get_or-reverse (u ∷ above ns u) i 0 (omega arith),
        there_up u refl there (length (u ∷ above ns u) - 1 - i) (omega arith),
      )

-- ---- a chain of a node

module _ (now : Plain) (ast : ActiveSegs) (links : Links) (a : AccountMaps) (whos : List Who) (chain : List Link)
    (h : IsStore now ast links a whos) (t : IsTree a.nodes) (down : IsChainDown a chain) where
  same_length : length chain ≡ length (chain_of a.nodes down.uid)
  same_length = cc (length-map (chain_of a.nodes down.uid) (link_of a))

  link_is : (i : ℕ) → i < length chain → link_at chain i ≡ link_of a (get_or (chain_of a.nodes down.uid) i 0)
  link_is i lt = cc (get_or-map (link_of a) (chain_of a.nodes down.uid) i 0 no_link (omega (arith, lt, same_length)))

  chain_uid : (i : ℕ) → i < length chain → (link_at chain i).uid ≡ get_or (chain_of a.nodes down.uid) i 0
  chain_uid i lt = cc (link_is i lt)

  link_home : (i : ℕ) → i < length chain → (link_at chain i).home ≡ home_of a (link_at chain i).uid
  link_home i lt = cc (link_is i lt, chain_uid i lt)

  pub link_pool : (i : ℕ) (n : Node) → i < length chain → node_in a.nodes (link_at chain i).uid ≡ Some n
      → (link_at chain i).pool ≡ pool_of n
  link_pool i n lt found = cc (link_is i lt, chain_uid i lt, ap pool_in found)

  pub link_there : (i : ℕ) → i < length chain → is_there a.nodes (link_at chain i).uid ≡ true
  link_there i lt = cc (chain_uid i lt, chain_there a.nodes t down.uid down.there i (omega (arith, lt, same_length)))

  pub link_superior : (i : ℕ) (n : Node) → i < length chain → node_in a.nodes (link_at chain i).uid ≡ Some n
      → n.superior ≡ superior_of chain i
  link_superior zero n lt e =
      cc (superior_found a.nodes (link_at chain 0).uid n e, chain_uid 0 lt, chain_first a.nodes t down.uid)
  link_superior (suc i) n lt e = cc (
    superior_found a.nodes (link_at chain (suc i)).uid n e,
    chain_uid (suc i) lt,
    chain_next a.nodes t down.uid i (omega (arith, lt, same_length)),
    chain_uid i (omega arith),
  )

  pub link_room : (i : ℕ) → i < length chain
      → (pages_in a.nodes (link_at chain i).uid ≤ words_in (link_at chain i).pool) × ((link_at chain i).pool < 4)
  link_room i lt =
      let found = found_there a.nodes (link_at chain i).uid (link_there i lt) in
      let pages = ap pages_of found.1 in
      let room = room_of found.0 (rw pages at (h.counted.most (link_at chain i).uid))
      (λ d. sym pages ∙ h.counted.flat (link_at chain i).uid
      (directory_found a.nodes (link_at chain i).uid found.0 found.1 ∙ d)) in
      let pool = link_pool i found.0 lt found.1 in (rw (pool, pages) room.0, rw pool room.1)

  pub may_activate : {volumes : ℕ} → length now.vtocs ≤ volumes → HasOneToGo ast chain
      → MayActivate ast now.vtocs volumes chain
  may_activate all go = record {
    few = (omega (arith, chain_length a.nodes t down.uid, same_length));
    pools = λ i lt. (link_room i lt).1;
    superiors = λ i place lt e. (let found = found_there a.nodes (link_at chain i).uid (link_there i lt) in
        h.active.superiors place (link_at chain i).uid found.0 e found.1 ∙ link_superior i found.0 lt found.1);
    volumes_are = λ i lt. (omega (arith, homed_volume now.vtocs (link_at chain i).home (homed i lt)));
    homes = λ i lt. homed i lt;
    fits = λ i lt. record {
      none = λ p le. fit i lt p le (get_or (map_at now.vtocs (link_at chain i).home) p None) refl;
    };
    off = go.off;
  }
    where
      homed : (i : ℕ) → i < length chain → uid_homed now.vtocs (link_at chain i).home ≡ Some (link_at chain i).uid
      homed i lt = cc (link_home i lt, h.housed.homes (link_at chain i).uid (link_there i lt))

      fit : (i : ℕ) → i < length chain → (p : ℕ) → words_in (link_at chain i).pool ≤ p → (o : Option ℕ)
          → get_or (map_at now.vtocs (link_at chain i).home) p None ≡ o → o ≡ None
      fit i lt p le None e = refl
      fit i lt p le (Some r) e =
          let within = h.counted.inside (link_at chain i).uid p (link_there i lt)
          (rw (← link_home i lt) (cc (filed_map now.vtocs (link_at chain i).home p))) in
          let room = (link_room i lt).0 in
          absurd (omega arith)

-- ---- what has become of it

same_entries : (s : ActiveSegs) (pool : ℕ) (o : Option ℕ)
    → ((hand_past s pool o).entries ≡ s.entries) × ((hand_past s pool o).sizes ≡ s.sizes)
same_entries s pool None = (refl, refl)
same_entries s pool (Some found) = (refl, refl)

-- a segment of the chain is active now
module _ (now : Plain) (ast : ActiveSegs) (links : Links) (a : AccountMaps) (whos : List Who) (chain : List Link)
    (h : IsStore now ast links a whos) (t : IsTree a.nodes) (down : IsChainDown a chain)
    (linked : AreLinked ast.entries links) (next : ActiveSegs) (place i : ℕ) (lt : i < length chain)
    (free : entry_at ast.entries place ≡ None) (in_pool : IsInPool ast.sizes (link_at chain i).pool place)
    (entries : next.entries ≡ set ast.entries place (Some (record {
      uid = (link_at chain i).uid;
      superior = superior_of chain i;
    }))) (sizes : next.sizes ≡ ast.sizes) where
  now_at : (q : ℕ) → q ≢ place → entry_at next.entries q ≡ entry_at ast.entries q
  now_at q ne = rw entries (get_or-set_other ast.entries place q _ None ne)

  -- of what is active there, once it is known what was or is there
  told : (P : Option Entry → Type 0) (q : ℕ)
      → P (Some (record { uid = (link_at chain i).uid; superior = superior_of chain i })) → P (entry_at ast.entries q)
      → P (entry_at next.entries q)
  told P q new old = rw entries (set_told P ast.entries place q None new old)

  active_next : AreInTree a.nodes next
  active_next = record {
    there = λ q u. told (λ o. uid_in o ≡ Some u → is_there a.nodes u ≡ true) q
        (λ e. cc (link_there now ast links a whos chain h t down i lt)) (λ e. h.active.there q u e);
    superiors = λ q u n e found. told (λ o. uid_in o ≡ Some u → superior_of_entry o ≡ n.superior) q
        (λ same. sym (link_superior now ast links a whos chain h t down i n lt (cc)))
        (λ was. h.active.superiors q u n was found) e;
    pools = λ q u n e found. rw sizes (elim (cases_eq q place) [
      | inr ne ↦ h.active.pools q u n (cc (now_at q ne)) found
      | inl is ↦ told (λ o. uid_in o ≡ Some u → IsInPool ast.sizes (pool_of n) q) q
          (λ same. rw is (rw (link_pool now ast links a whos chain h t down i n lt (cc)) at in_pool))
          (λ was. h.active.pools q u n was found) e
    ]);
  }

  -- no descriptor led to the place
  never : (process number : ℕ) {q pages u : ℕ} {m : Mode}
      → sdw_at (sdws_at links.descriptors process) number ≡ Present q m pages → uid_in_place next.entries q ≡ Some u
      → uid_in_place ast.entries q ≡ Some u
  never process number {q} d e = elim (cases_eq q place) [
    | inr ne ↦ ap uid_in (sym (now_at q ne)) ∙ e
    | inl is ↦ (cc (ap uid_in free, (linked.known process number q (ap leads d)).active))
  ]

  store_active : IsStore now next links a whos
  store_active = record {
    housed = h.housed;
    counted = h.counted;
    taken = h.taken;
    active = active_next;
    rights = record {
      modes = λ process number q pages u m n d e found. h.rights.modes process number q pages u m n d
          (never process number d e) found;
      lengths = λ process number q pages u m n d e found. h.rights.lengths process number q pages u m n d
          (never process number d e) found;
    };
    known = h.known;
  }

pub store_next : {D : Type 0} (drive : D → List (List ℕ)) (old new : Control D) (a : AccountMaps) (whos : List Who)
    (chain : List Link) (r : Next) → IsNext old new chain r → IsTree a.nodes → IsChainDown a chain
    → AreLinked old.ast.entries old.links → IsStore (plain drive old.pages) old.ast old.links a whos
    → IsStore (plain drive new.pages) new.ast new.links a whos
store_next {D} drive old new a whos chain (Activated place) next t down linked h =
    rw next.1.effect (store_active (plain drive old.pages) old.ast old.links a whos chain h t down linked _ place next.0
    next.1.first.within next.1.least.free next.1.least.in_pool refl refl)
store_next {D} drive old new a whos chain (Victim place) next t down linked h =
    let same = same_entries old.ast (link_at chain next.0).pool
    (first_off_chain old.ast (link_at chain next.0).pool (uids_of chain)) in
    rw next.1.effect (store_still refl refl same.0 same.1 h)
store_next {D} drive old new a whos chain Whole next t down linked h = rw next.1 h

shown_ast : {D : Type 0} {drive : D → List (List ℕ)} {p : Plan} {s : Store} {t : Storage D} (ast : ActiveSegs)
    → Shows drive p s t → Shows drive p s (record t { segs = record t.segs { ast = ast } })
shown_ast ast h = assumption

pub shown_next : {D : Type 0} (drive : D → List (List ℕ)) (p : Plan) (s : Store) (t : Storage D) (new : Control D)
    (chain : List Link) (r : Next) → IsNext t.segs new chain r → Shows drive p s t
    → Shows drive p s (record t { segs = new })
shown_next drive p s t new chain r h1 h2 = grind (arith, shown_ast)
