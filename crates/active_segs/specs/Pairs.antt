-- What the rest of the crate sees of the index: a list of uids with their places, and how many it has room for.
use Rattle.std.specs.Prelude.{◌≡◌, ◌≢◌, ℕ, ◌<◌, ◌≤◌, ◌%◌, ◌==◌, List, [], ◌∷◌, Option, Some, None, length, slice_index_or, if◌then◌else◌, flat_map}

-- the uids that are in the index, each with its place, and the room for them
pub record Pairs : Type 0 where
  pub pairs : List (ℕ × ℕ)
  pub room : ℕ

-- the place of a uid, if it is in the index
abbrev pub place_of : List (ℕ × ℕ) → ℕ → Option ℕ
place_of [] uid = None
place_of ((u, place) ∷ rest) uid = if u == uid then Some place else place_of rest uid

-- the uid that stands k-th
abbrev pub uid_in : List (ℕ × ℕ) → ℕ → ℕ
uid_in pairs k = let pair = slice_index_or pairs k (0, 0) in pair.0

-- the uids ascend, so none comes twice
abbrev pub IsAscending : List (ℕ × ℕ) → Type 0
IsAscending pairs = (i j : ℕ) → i < j → j < length pairs → uid_in pairs i < uid_in pairs j

-- the uid stands k-th
pub record IsFoundAt (pairs : List (ℕ × ℕ)) (uid k : ℕ) : Type 0 where
  pub within : k < length pairs
  pub is : uid_in pairs k ≡ uid

-- the uid isn't there, and would stand k-th: smaller ones before it, greater ones from there on
pub record BelongsAt (pairs : List (ℕ × ℕ)) (uid k : ℕ) : Type 0 where
  pub within : k ≤ length pairs
  pub below : (i : ℕ) → i < k → uid_in pairs i < uid
  pub above : (i : ℕ) → k ≤ i → i < length pairs → uid < uid_in pairs i

-- the new index has this place for the uid, and the old one's for every other
abbrev pub SetsPlace : List (ℕ × ℕ) → List (ℕ × ℕ) → ℕ → Option ℕ → Type 0
SetsPlace old new uid place = (q : ℕ) → place_of new q ≡ (if uid == q then place else place_of old q)

-- ---- the lists by the remainder of the uid

abbrev pub empty_list : ℕ → Pairs
empty_list room = record { pairs = []; room = room }

abbrev pub list_at : List Pairs → ℕ → Pairs
list_at lists k = slice_index_or lists k (empty_list 0)

-- the pairs of all lists
abbrev pub pairs_in : List Pairs → List (ℕ × ℕ)
pairs_in lists = flat_map (λ list. list.pairs) lists

-- 256 lists, each with this room, and a uid is in no other than the one of its remainder
pub record IsSplit (lists : List Pairs) (room : ℕ) : Type 0 where
  pub many : length lists ≡ 256
  pub rooms : (k : ℕ) → k < 256 → (list_at lists k).room ≡ room
  pub apart : (k uid : ℕ) → k < 256 → k ≢ uid % 256 → place_of (list_at lists k).pairs uid ≡ None
