-- What holds of the fields of an active segment table; contracts don't see it.
use Rattle.std.specs.Prelude.{◌≡◌, ℕ, ◌+◌, ◌<◌, ◌↔◌, Bool, false, List, [], length, Option, Some, None, is_some, slice_index_or, slice_set, sum, count_by}
use Rattle.bitmap.specs.Bitmap.{in_use}
use Rattle.page_table.specs.declared.Ptw.{Ptw}
use Rattle.active_segs.specs.declared.Entry.{Entry}
use Rattle.active_segs.specs.Active.{entry_at, uid_at, superior_at, IsTree}
use Rattle.active_segs.specs.Pairs.{Pairs, place_of}
use Rattle.active_segs.specs.Pool.{first_of, size_of, HasPools}

-- one map of some
abbrev pub map_of : List (List Bool) → ℕ → List Bool
map_of maps i = slice_index_or maps i []

-- the maps with one flag changed
abbrev pub map_set : List (List Bool) → ℕ → ℕ → Bool → List (List Bool)
map_set maps i k flag = slice_set maps i (slice_set (map_of maps i) k flag)

-- the maps say which places are used
pub record IsMarked (sizes : List ℕ) (used : List (List Bool)) (entries : List (Option Entry)) : Type 0 where
  pub maps : length used ≡ 4
  pub as_long : (pool : ℕ) → pool < 4 → length (map_of used pool) ≡ size_of sizes pool
  pub flags : (pool offset : ℕ) → pool < 4 → offset < size_of sizes pool
      → in_use (map_of used pool) offset ≡ is_some (entry_at entries (first_of sizes pool + offset))

-- the segment of a place is the superior of the one in place q
abbrev pub IsInferior : List (Option Entry) → ℕ → ℕ → Type 0
IsInferior entries place q = (uid : ℕ) × (uid_at entries place ≡ Some uid) × (superior_at entries q ≡ Some uid)

-- each place has a map of all places, in which those of its segment's active inferiors are free
pub record AreNoted (entries : List (Option Entry)) (inferiors : List (List Bool)) : Type 0 where
  pub maps : length inferiors ≡ length entries
  pub as_long : (place : ℕ) → place < length entries → length (map_of inferiors place) ≡ length entries
  pub free : (place q : ℕ) → place < length entries → q < length entries → (in_use (map_of inferiors place) q ≡ false)
      ↔ IsInferior entries place q

-- the flag of a place in one map of some
pub record HasFlag (maps : List (List Bool)) (place : ℕ) (flag : Bool) (i : ℕ) : Type 0 where
  pub known : i < length maps
  pub within : place < length (map_of maps i)
  pub is : in_use (map_of maps i) place ≡ flag

-- the maps of inferiors with a place's flag changed in its superior's map, where it has a superior
abbrev pub noted : List (List Bool) → Option ℕ → ℕ → Bool → List (List Bool)
noted inferiors None place flag = inferiors
noted inferiors (Some above) place flag = map_set inferiors above place flag

-- the index has the places of the active segments
pub record IsIndexed (entries : List (Option Entry)) (index : Pairs) : Type 0 where
  pub places : (place uid : ℕ) → (place_of index.pairs uid ≡ Some place) ↔ (uid_at entries place ≡ Some uid)
  pub count : length index.pairs ≡ count_by is_some entries
  pub room : index.room ≡ length entries

pub record IsKept (sizes hands : List ℕ) (used : List (List Bool)) (entries : List (Option Entry))
    (tables : List (List Ptw)) (inferiors : List (List Bool))
    (index : Pairs) : Type 0 where
  pub pools : HasPools sizes hands
  pub entry_count : length entries ≡ sum sizes
  pub table_count : length tables ≡ sum sizes
  pub marked : IsMarked sizes used entries
  pub inferior_maps : AreNoted entries inferiors
  pub indexed : IsIndexed entries index
  pub tree : IsTree entries

-- the place of a superior directory, where there is one
abbrev pub place_of_superior : List (ℕ × ℕ) → Option ℕ → Option ℕ
place_of_superior pairs None = None
place_of_superior pairs (Some superior) = place_of pairs superior

-- something is active in the place
abbrev pub IsActiveAt : List (Option Entry) → ℕ → Type 0
IsActiveAt entries place = (uid : ℕ) × (uid_at entries place ≡ Some uid)
