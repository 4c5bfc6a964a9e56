use Rattle.std.specs.Prelude.{◌≡◌, ℕ, ◌<◌, Bool, true, false, not, List, length, Option, slice_index_or, position}

-- whether number r is in use, and false past the map's size (own)
abbrev pub in_use : List Bool → ℕ → Bool
in_use flags r = slice_index_or flags r false

-- the least number that is free, None where all are in use (own)
abbrev pub least_free : List Bool → Option ℕ
least_free flags = position not flags

-- r is the least number that is free: it is free, and every smaller one is in use (own)
pub record IsLeastFree (flags : List Bool) (r : ℕ) : Type 0 where
  pub within : r < length flags
  pub free : in_use flags r ≡ false
  pub before : (k : ℕ) → k < r → in_use flags k ≡ true
