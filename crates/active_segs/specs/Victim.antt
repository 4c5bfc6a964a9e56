-- The segment that has to go where a pool is full (own).
use Rattle.std.specs.Prelude.{◌≡◌, ◌≢◌, ℕ, zero, suc, ◌+◌, ◌-◌, ◌<◌, Bool, true, false, not, ◌==◌, List, ◌++◌, Option, Some, None, Contains, length, position, slice_index, slice_set, if◌then◌else◌}
use Rattle.std.specs.List.{find, list_any, range_with_len}
use Rattle.active_segs.specs.declared.Entry.{Entry}
use Rattle.active_segs.specs.Pool.{first_of, size_of, IsInPool}
use Rattle.active_segs.specs.Active.{ActiveSegs, entry_at, superior_in, uid_at, superior_at, HasNoInferior}

-- whether a place is used by a segment that isn't in the chain
abbrev pub off_chain : List ℕ → Option Entry → Bool
off_chain chain None = false
off_chain chain (Some e) = not (list_any (λ uid. uid == e.uid) chain)

-- the places from one up to another
abbrev pub places_from : ℕ → ℕ → List ℕ
places_from from to = range_with_len from (to - from)

-- where a pool's hand stands
abbrev pub hand_of : ActiveSegs → ℕ → ℕ
hand_of s pool = first_of s.sizes pool + slice_index s.hands pool

-- the places of a pool once round it, the one at the hand first
abbrev pub round_pool : ActiveSegs → ℕ → List ℕ
round_pool s pool = places_from (hand_of s pool) (first_of s.sizes pool + size_of s.sizes pool)
    ++ places_from (first_of s.sizes pool) (hand_of s pool)

-- the first of some places that is used by a segment that isn't in the chain
abbrev pub first_of_places : List (Option Entry) → List ℕ → List ℕ → Option ℕ
first_of_places entries chain places = find (λ place. off_chain chain (entry_at entries place)) places

-- the first used place from the hand, round the pool, whose segment isn't in the chain
abbrev pub first_off_chain : ActiveSegs → ℕ → List ℕ → Option ℕ
first_off_chain s pool chain = first_of_places s.entries chain (round_pool s pool)

-- of the active segments whose superior is active in the place, q has the one of the least place, all pools counted
-- in order
pub record IsLeastInferior (entries : List (Option Entry)) (place q : ℕ) : Type 0 where
  pub uid : ℕ
  pub is : uid_at entries place ≡ Some uid
  pub inferior : superior_at entries q ≡ Some uid
  pub least : (k : ℕ) → k < q → superior_at entries k ≢ Some uid

-- n times the least active inferior takes the place's stead, and then there is none
unfoldable pub Descends : List (Option Entry) → ℕ → ℕ → ℕ → Type 0
Descends entries zero place leaf = HasNoInferior entries place × (leaf ≡ place)
Descends entries (suc n) place leaf = (q : ℕ) × IsLeastInferior entries place q × Descends entries n q leaf

-- the leaf that takes the place's stead: while a segment has an active inferior, the least one takes its stead
abbrev pub StandsFor : List (Option Entry) → ℕ → ℕ → Type 0
StandsFor entries place leaf = (n : ℕ) × Descends entries n place leaf

-- the segment of this place has to go where the pool is full: the leaf in the stead of the first place off the chain
pub record IsVictim (s : ActiveSegs) (pool : ℕ) (chain : List ℕ) (place : ℕ) : Type 0 where
  pub found : ℕ
  pub first : first_off_chain s pool chain ≡ Some found
  pub leaf : StandsFor s.entries found place

-- ---- the same as a function

-- whether an entry has the segment as its superior
abbrev pub is_inferior_in : ℕ → Option ℕ → Bool
is_inferior_in uid None = false
is_inferior_in uid (Some s) = s == uid

abbrev pub is_inferior_of : ℕ → Option Entry → Bool
is_inferior_of uid entry = is_inferior_in uid (superior_in entry)

-- the least place whose segment has the one of a place as its superior, all pools counted in order
abbrev pub least_inferior_of : List (Option Entry) → Option ℕ → Option ℕ
least_inferior_of entries None = None
least_inferior_of entries (Some uid) = position (is_inferior_of uid) entries

abbrev pub least_inferior : List (Option Entry) → ℕ → Option ℕ
least_inferior entries place = least_inferior_of entries (uid_at entries place)

-- what takes a place's stead in one step down, and the place itself where there is no inferior
abbrev pub stead_of : ℕ → Option ℕ → ℕ
stead_of place None = place
stead_of place (Some inferior) = inferior

-- so many steps down from a place
unfoldable pub leaf_below : List (Option Entry) → ℕ → ℕ → ℕ
leaf_below entries zero place = place
leaf_below entries (suc steps) place = leaf_below entries steps (stead_of place (least_inferior entries place))

-- as many steps down as the table has places come to the leaf
abbrev pub leaf_of : List (Option Entry) → Option ℕ → Option ℕ
leaf_of entries None = None
leaf_of entries (Some place) = Some (leaf_below entries (length entries) place)

-- the place of the segment that has to go where the pool is full
abbrev pub victim_of : ActiveSegs → ℕ → List ℕ → Option ℕ
victim_of s pool chain = leaf_of s.entries (first_off_chain s pool chain)

-- ---- the hand

-- a hand past an offset, round the pool
abbrev pub offset_after : ℕ → ℕ → ℕ
offset_after size offset = if offset + 1 == size then 0 else offset + 1

-- the pool's hand stands after the place that was found, not after the leaf
abbrev pub hand_past : ActiveSegs → ℕ → Option ℕ → ActiveSegs
hand_past s pool None = s
hand_past s pool (Some found) = record s {
  hands = slice_set s.hands pool
      (offset_after (size_of s.sizes pool) (found - first_of s.sizes pool));
}

-- the hand after a victim of the pool has been chosen
abbrev pub hand_moved : ActiveSegs → ℕ → List ℕ → ActiveSegs
hand_moved s pool chain = hand_past s pool (first_off_chain s pool chain)

-- some segment that is active in the pool isn't in the chain
pub record HasOneOffChain (s : ActiveSegs) (pool : ℕ) (chain : List ℕ) : Type 0 where
  pub place : ℕ
  pub in_pool : IsInPool s.sizes pool place
  pub off : off_chain chain (entry_at s.entries place) ≡ true

-- the superior of each active segment of the chain is in the chain
abbrev pub HasItsSuperiors : List (Option Entry) → List ℕ → Type 0
HasItsSuperiors entries chain =
    (place uid superior : ℕ) → uid_at entries place ≡ Some uid → Contains chain uid → superior_at entries place
    ≡ Some superior → Contains chain superior

-- the segment of this place isn't in the chain
abbrev pub IsOffChain : List (Option Entry) → List ℕ → ℕ → Type 0
IsOffChain entries chain place = off_chain chain (entry_at entries place) ≡ true
