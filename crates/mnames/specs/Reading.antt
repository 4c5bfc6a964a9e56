-- What the reading of a path comes upon.
use Rattle.std.specs.Prelude.{◌≡◌, ◌≢◌, ℕ, ◌<◌, ◌≤◌, true, false, List, [], ◌∷◌, length, take, slice_index}
use Rattle.std.specs.List.{list_all}
use Rattle.mnames.specs.Names.{is_name_byte, IsPath, path_text, IsLongestStart}

-- nothing, or a text that begins with `>`
abbrev pub IsAtSign : List ℕ → Type 0
IsAtSign [] = Unit {0}
IsAtSign (b ∷ bs) = b ≡ 62

-- the front of a text, up to its first byte that may not stand in an entry name, and of at most 32 bytes
pub record IsRun (text : List ℕ) (n : ℕ) : Type 0 where
  pub within : n ≤ length text
  pub short : n ≤ 32
  pub each : list_all is_name_byte (take n text) ≡ true
  pub stop : n < length text → n < 32 → is_name_byte (slice_index text n) ≡ false

-- such a front, which is no entry name that `>` or the end follows
pub record IsStuck (text : List ℕ) (n : ℕ) : Type 0 where
  pub run : IsRun text n
  pub inside : n ≢ 0 → n < length text
  pub other : n ≢ 0 → slice_index text n ≢ 62

-- a text that is no path
pub record IsNoPath (text : List ℕ) (place : ℕ) : Type 0 where
  pub start : IsLongestStart text place
  pub never : (names : List (List ℕ)) → IsPath names → text ≢ path_text names
