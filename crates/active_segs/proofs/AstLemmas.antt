-- What each call keeps, over plain fields.
pub use Rattle.active_segs.proofs.InferiorLemmas.{IsSuperiorPlace, ap, may_forget, may_note, noted_activated, noted_deactivated, rules, superior_of_active, superior_placed}
pub use Rattle.active_segs.proofs.PlaceLemmas.{ActiveSegs, All, AreNoted, Bool, Entry, HasNoInferior, HasOneOffChain, HasPools, HasShape, IfSome, IsActive, IsActiveAt, IsFirstFree, IsFull, IsInPool, IsIndexed, IsKept, IsLeastFree, IsMarked, IsPlaced, IsSome, IsVictim, List, None, Option, Pairs, Ptw, SetsPlace, Some, StandsFor, [], arith, both_ways, drop, entry_at, false, find_passes, first_of, first_off_chain, get_or, get_or-drop, get_or-take, get_or_default, get_or_read, hand_of, in_use, index_has_room, index_lacks, indexed_activated, indexed_deactivated, is_some, leaf_below, leaf_of, length, length-drop, length-set, length-take-le, map_of, map_set, marked_set, not_all_used, noted, off_chain, place_of, place_of_superior, pool_within, refl, round_pool, set, size_of, subst, sum, superior_in, sym, take, tree_activated, tree_deactivated, true, uid_at, used_in, used_within, victim_of, ℕ, ◌+◌, ◌-◌, ◌<◌, ◌∙◌, ◌≡◌, ◌≢◌, ◌≤◌}
pub use Rattle.active_segs.proofs.DescentLemmas.{off_is_used, round_found, round_reaches, victim_is_leaf, victim_off, victim_once, victim_within}

-- ---- search

pub searched_within : {xs : List (Option Entry)} {index : Pairs} (uid : ℕ) (r : Option ℕ) → IsIndexed xs index
    → r ≡ place_of index.pairs uid → IfSome r (λ p. p < length xs)
searched_within uid None indexed is = tt
searched_within {xs} uid (Some p) indexed is = used_within xs p uid ((indexed.places p uid).0 (sym is))

-- ---- a place that is read, where something is active

pub record HasEntry (xs : List (Option Entry)) (place : ℕ) (entry : Entry) : Type 0 where
  pub within : place < length xs
  pub is : entry_at xs place ≡ Some entry

pub used_entry : {inside old : ActiveSegs} {place : ℕ} {x : Option Entry} {entry : Entry} → inside ≡ old → place
    < length old.entries → x ≡ get_or inside.entries place x → x ≡ Some entry → HasEntry inside.entries place entry
used_entry {inside = inside} {place = place} {x = x} view lt read is =
    let within : place < length inside.entries = rw view lt in
    record { within = within; is = sym (get_or_default inside.entries place x None within) ∙ sym read ∙ is }

-- ---- the calls

module _ (sizes hands : List ℕ) (used : List (List Bool)) (xs : List (Option Entry)) (tables : List (List Ptw))
    (maps : List (List Bool)) (index : Pairs) (kept : IsKept sizes hands used xs tables maps index) where
  pub kept_activated : (place uid : ℕ) (superior : Option ℕ) (pool offset : ℕ) (used' maps' : List (List Bool))
      (index' : Pairs) (above : Option ℕ) → place < length xs → entry_at xs place ≡ None → ((q : ℕ)
      → uid_at xs q ≢ Some uid) → ((s : ℕ) → superior ≡ Some s → IsActive xs s) → IsPlaced sizes place pool offset
      → above ≡ place_of_superior index.pairs superior → used' ≡ map_set used pool offset true
      → maps' ≡ noted maps above place false → SetsPlace index.pairs index'.pairs uid (Some place)
      → length index'.pairs ≡ length index.pairs + 1 → index'.room ≡ index.room
      → IsKept sizes hands used' (set xs place (Some (record { uid = uid; superior = superior }))) tables maps' index'
  kept_activated place uid superior pool offset used' counts' index' above lt free inactive active placed is_above
      is_used is_maps sets count room =
      let e : Entry = record { uid = uid; superior = superior } in
      let pools : HasPools sizes hands = kept.pools in
      let entry_count : length xs ≡ sum sizes = kept.entry_count in
      let at : IsSuperiorPlace xs superior above = subst (IsSuperiorPlace xs superior) (sym is_above)
      (superior_placed xs index kept.indexed superior active) in
      record {
        pools = pools;
        entry_count = length-set xs place (Some e) ∙ entry_count;
        table_count = kept.table_count;
        marked = rw is_used (marked_set true (Some e) pools.four entry_count kept.marked placed refl);
        inferior_maps = subst (AreNoted (set xs place (Some e))) (sym is_maps)
            (noted_activated xs maps kept.inferior_maps kept.tree place uid lt free inactive superior above at);
        indexed = indexed_activated xs index index' place lt kept.indexed room e free inactive sets count;
        tree = tree_activated xs place uid superior lt free inactive active kept.tree;
      }

  pub kept_deactivated : (place : ℕ) (e : Entry) (pool offset : ℕ) (used' maps' : List (List Bool)) (index' : Pairs)
      (above : Option ℕ) (table : List Ptw) → place < length xs → entry_at xs place ≡ Some e → HasNoInferior xs place
      → IsPlaced sizes place pool offset → above ≡ place_of_superior index.pairs e.superior → used'
      ≡ map_set used pool offset false → maps' ≡ noted maps above place true
      → SetsPlace index.pairs index'.pairs e.uid None → length index'.pairs + 1 ≡ length index.pairs → index'.room
      ≡ index.room → IsKept sizes hands used' (set xs place None) (set tables place table) maps' index'
  kept_deactivated place e pool offset used' counts' index' above table lt is leaf placed is_above is_used is_maps sets
      count room =
      let pools : HasPools sizes hands = kept.pools in
      let entry_count : length xs ≡ sum sizes = kept.entry_count in
      let at : IsSuperiorPlace xs e.superior above = subst (IsSuperiorPlace xs e.superior) (sym is_above)
      (superior_of_active xs index place e kept.indexed kept.tree is) in
      record {
        pools = pools;
        entry_count = length-set xs place None ∙ entry_count;
        table_count = length-set tables place table ∙ kept.table_count;
        marked = rw is_used (marked_set false None pools.four entry_count kept.marked placed refl);
        inferior_maps = subst (AreNoted (set xs place None)) (sym is_maps) (noted_deactivated
            xs maps kept.inferior_maps kept.tree place lt leaf e.superior above (ap superior_in is) at);
        indexed = indexed_deactivated xs index index' place lt kept.indexed room e is kept.tree.once sets count;
        tree = tree_deactivated xs place lt leaf kept.tree;
      }

-- ---- the free places of a pool

-- the map of a pool, as it is read
pub marked_map : {sizes : List ℕ} {used : List (List Bool)} {entries : List (Option Entry)} → IsMarked
    sizes used entries → (pool : ℕ) (map : List Bool) → pool < 4 → map ≡ get_or used pool map → map ≡ map_of used pool
marked_map {sizes} {used} {entries} marked pool map lt read =
    (let maps : length used ≡ 4 = marked.maps in get_or_read used pool map (omega arith) read [])

pub full_since_marked : (s : ActiveSegs) (used : List (List Bool)) (pool : ℕ) → pool < 4
    → IsMarked s.sizes used s.entries → All (λ flag. flag ≡ true) (map_of used pool) → IsFull s pool
full_since_marked s used pool lt marked all q in_pool =
    let i : ℕ = q - first_of s.sizes pool in
    let from : first_of s.sizes pool ≤ q = in_pool.from in
    let to : q < first_of s.sizes pool + size_of s.sizes pool = in_pool.to in
    let within : i < size_of s.sizes pool = omega arith in
    let long : length (map_of used pool) ≡ size_of s.sizes pool = marked.as_long pool lt in
    let at : first_of s.sizes pool + i ≡ q = omega arith in
    let on : in_use (map_of used pool) i ≡ true = all i false (omega arith) in
    subst (λ (k : ℕ). is_some (entry_at s.entries k) ≡ true) at (sym (marked.flags pool i lt within) ∙ on)

-- the least free flag of a pool's map is its least free place
pub least_since_marked : (s : ActiveSegs) (used : List (List Bool)) (pool offset : ℕ) → pool < 4 → IsMarked
    s.sizes used s.entries → IsFirstFree (map_of used pool) offset → IsLeastFree s pool (first_of s.sizes pool + offset)
least_since_marked s used pool offset lt marked first =
    let long = marked.as_long pool lt in
    let lt_offset = first.within in
    let within : offset < size_of s.sizes pool = omega arith in
    let free : is_some (entry_at s.entries (first_of s.sizes pool + offset)) ≡ false =
    sym (marked.flags pool offset lt within) ∙ first.free in
    record {
      in_pool = record { from = omega arith; to = omega arith };
      free = none_since (entry_at s.entries (first_of s.sizes pool + offset)) free;
      least = λ q in_pool before. (let i = q - first_of s.sizes pool in
          let from = in_pool.from in
          let to = in_pool.to in
          let within_i : i < size_of s.sizes pool = omega arith in
          let before_i : i < offset = omega arith in
          subst (λ (k : ℕ). is_some (entry_at s.entries k) ≡ true)
          (omega arith) (sym (marked.flags pool i lt within_i) ∙ first.before i before_i));
    }
  where
    none_since : (o : Option Entry) → is_some o ≡ false → o ≡ None
    none_since None h = refl
    none_since (Some e) h = cc

pub not_full : (s : ActiveSegs) (pool place : ℕ) → IsLeastFree s pool place → IsFull s pool → ⊥
not_full s pool place least full = both_ways _ (ap is_some least.free) (full place least.in_pool)

pub free_within : (s : ActiveSegs) (pool place : ℕ) → HasShape s → pool < 4 → IsLeastFree s pool place
    → place < length s.entries
free_within s pool place shape lt least =
    omega (arith, least.in_pool.to, pool_within s.sizes pool shape.pools.four lt, shape.entry_count)

-- where a place is free the pool has room for one more
pub room_since_free : (s : ActiveSegs) (pool place : ℕ) → HasShape s → pool < 4 → IsLeastFree s pool place
    → used_in s pool < size_of s.sizes pool
room_since_free s pool place shape lt least =
    let first = first_of s.sizes pool in
    let size = size_of s.sizes pool in
    let i = place - first in
    let from = least.in_pool.from in
    let to = least.in_pool.to in
    let ends = pool_within s.sizes pool shape.pools.four lt in
    let count = shape.entry_count in
    let past = length-drop first s.entries in
    let long = length-take-le size (drop first s.entries) (omega arith) in
    let at : first + i ≡ place = omega arith in
    let free = get_or-take size (drop first s.entries) i None (omega arith)
    ∙ get_or-drop first s.entries i None ∙ ap (entry_at s.entries) at ∙ least.free in
    omega (arith, not_all_used (take size (drop first s.entries)) i (omega arith) free)

-- ---- the victim

pub hand_inside : {sizes hands : List ℕ} {pool place : ℕ} → HasPools sizes hands → pool < 4 → IsInPool sizes pool place
    → get_or hands pool 0 < size_of sizes pool
hand_inside {sizes} {pool} {place} pools lt in_pool = pools.inside pool lt (omega (arith, in_pool.from, in_pool.to))

-- the active segments of these tables
abbrev pub segs_of : List ℕ → List ℕ → List (Option Entry) → List (List Ptw) → ActiveSegs
segs_of sizes hands entries tables = record { sizes = sizes; hands = hands; entries = entries; tables = tables }

pub place_found : {s : ActiveSegs} {pool : ℕ} {chain : List ℕ} → HasPools s.sizes s.hands → pool < 4
    → HasOneOffChain s pool chain → IsSome (first_off_chain s pool chain)
place_found {s} {pool} {chain} pools lt some =
    let inside : get_or s.hands pool 0 < size_of s.sizes pool = hand_inside pools lt some.in_pool in
    round_reaches (λ place. off_chain chain (entry_at s.entries place)) (first_of s.sizes pool) (hand_of s pool)
    (first_of s.sizes pool + size_of s.sizes pool)
    some.place (omega arith) (omega arith) some.in_pool.from some.in_pool.to some.off

pub found_in_pool : {s : ActiveSegs} {pool : ℕ} {chain : List ℕ} (found : ℕ) → HasPools s.sizes s.hands → pool < 4
    → HasOneOffChain s pool chain → first_off_chain s pool chain ≡ Some found → IsInPool s.sizes pool found
found_in_pool {s} {pool} {chain} found pools lt some is =
    let inside : get_or s.hands pool 0 < size_of s.sizes pool = hand_inside pools lt some.in_pool in
    let h = round_found (λ place. off_chain chain (entry_at s.entries place)) (first_of s.sizes pool) (hand_of s pool)
    (first_of s.sizes pool + size_of s.sizes pool) found (omega arith) (omega arith) is in
    record { from = h.0; to = h.1 }

pub found_active : (s : ActiveSegs) (pool : ℕ) (chain : List ℕ) (found : ℕ) → first_off_chain s pool chain ≡ Some found
    → IsActiveAt s.entries found
found_active s pool chain found is =
    off_is_used chain (entry_at s.entries found) (find_passes (λ place. off_chain chain (entry_at s.entries place))
    (round_pool s pool) found is)

pub is_victim : (s : ActiveSegs) (pool : ℕ) (chain : List ℕ) {found leaf : ℕ}
    → first_off_chain s pool chain ≡ Some found → StandsFor s.entries found leaf → IsVictim s pool chain leaf
is_victim s pool chain {found} {leaf} first stands = record { found = found; first = first; leaf = stands }

pub is_victim_of : (s : ActiveSegs) (pool : ℕ) (chain : List ℕ) (found leaf : ℕ) → first_off_chain s pool chain
    ≡ Some found → leaf ≡ leaf_below s.entries (length s.entries) found → victim_of s pool chain ≡ Some leaf
is_victim_of s pool chain found leaf first is = ap (leaf_of s.entries) first ∙ ap (λ (k : ℕ). Some k) (sym is)
