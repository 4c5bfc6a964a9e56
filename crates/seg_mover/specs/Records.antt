-- Which records a segment takes on a volume, and which it gives back (Organick 1972; that it takes the least ones is
-- own).
use Rattle.std.specs.Prelude.{◌≡◌, ◌⊎◌, ℕ, Bool, true, false, List, [], ◌∷◌, length, Option, None, Some, slice_set, slice_index_or}
use Rattle.bitmap.specs.Bitmap.{in_use, least_free}

-- the flags after this record came into use; where there is none, as before
abbrev pub with_taken : List Bool → Option ℕ → List Bool
with_taken flags None = flags
with_taken flags (Some r) = slice_set flags r true

-- the flags after each page that a file map names, in order of page, has taken the least free record
abbrev pub flags_taken : List Bool → List (Option ℕ) → List Bool
flags_taken flags [] = flags
flags_taken flags (None ∷ places) = flags_taken flags places
flags_taken flags (Some r ∷ places) = flags_taken (with_taken flags (least_free flags)) places

-- the file map that names the records that they took
abbrev pub map_taken : List Bool → List (Option ℕ) → List (Option ℕ)
map_taken flags [] = []
map_taken flags (None ∷ places) = None ∷ map_taken flags places
map_taken flags (Some r ∷ places) = least_free flags ∷ map_taken (with_taken flags (least_free flags)) places

-- the flags after the records that a file map names are given back
abbrev pub flags_given : List Bool → List (Option ℕ) → List Bool
flags_given flags [] = flags
flags_given flags (None ∷ places) = flags_given flags places
flags_given flags (Some r ∷ places) = flags_given (slice_set flags r false) places

-- the records that a file map names are in use, and each is named once (own)
pub record AreKept (flags : List Bool) (places : List (Option ℕ)) : Type 0 where
  pub used : (p r : ℕ) → slice_index_or places p None ≡ Some r → in_use flags r ≡ true
  pub once : (p q r : ℕ) → slice_index_or places p None ≡ Some r → slice_index_or places q None ≡ Some r → p ≡ q

-- `more` has in use what `less` has, and the records that a file map names besides, none of which `less` has (own)
pub record AddsRecords (less more : List Bool) (places : List (Option ℕ)) : Type 0 where
  pub size : length more ≡ length less
  pub fresh : (p r : ℕ) → slice_index_or places p None ≡ Some r → in_use less r ≡ false
  pub kept : AreKept more places
  pub still : (r : ℕ) → in_use less r ≡ true → in_use more r ≡ true
  pub others : (r : ℕ) → in_use more r ≡ true → (in_use less r ≡ true)
      ⊎ ((p : ℕ) × (slice_index_or places p None ≡ Some r))
