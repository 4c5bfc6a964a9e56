-- The texts of entry names, of the parts of principals, and of paths.
use Rattle.std.specs.Prelude.{◌≡◌, ℕ, ◌<◌, ◌≤◌, Bool, ◌&&◌, ◌||◌, ◌==◌, nat_le, List, [], ◌∷◌, ◌++◌, length, take, IsTrue}
use Rattle.std.specs.List.{list_all, AllByRecursion}
use Rattle.std.specs.Char.{is_ascii_alphanumeric}
use Rattle.std.specs.Str.{IsAscii}

-- A text that a name or a label may keep in itself.
pub record IsShort (text : List ℕ) : Type 0 where
  pub ascii : IsAscii text
  pub short : length text ≤ 32

-- An ASCII letter, a digit, `_`, `.` or `-` (own).
abbrev pub is_name_byte : ℕ → Bool
is_name_byte b = ((is_ascii_alphanumeric b || b == 95) || b == 46) || b == 45

-- An entry name: 1 to 32 such bytes (32 characters: Bensoussan, Clingen and Daley 1972).
unfoldable pub is_name : List ℕ → Bool
is_name text = (nat_le 1 (length text) && nat_le (length text) 32) && list_all is_name_byte text

abbrev pub IsName : List ℕ → Type 0
IsName text = IsTrue (is_name text)

-- An ASCII letter, a digit or `_` (own).
abbrev pub is_label_byte : ℕ → Bool
is_label_byte b = is_ascii_alphanumeric b || b == 95

-- A person or a project: 1 to 32 such bytes (own).
unfoldable pub is_label : List ℕ → Bool
is_label text = (nat_le 1 (length text) && nat_le (length text) 32) && list_all is_label_byte text

abbrev pub IsLabel : List ℕ → Type 0
IsLabel text = IsTrue (is_label text)

-- Each name with `>` before it.
abbrev pub names_text : List (List ℕ) → List ℕ
names_text [] = []
names_text (name ∷ names) = 62 ∷ (name ++ names_text names)

-- A path: the root is `>` alone.
abbrev pub path_text : List (List ℕ) → List ℕ
path_text [] = 62 ∷ []
path_text (name ∷ names) = names_text (name ∷ names)

-- A path has at most nine names: eight directories and a segment (own).
pub record IsPath (names : List (List ℕ)) : Type 0 where
  pub few : length names ≤ 9
  pub each : AllByRecursion IsName names

-- Some path begins with this text.
abbrev pub BeginsPath : List ℕ → Type 0
BeginsPath text = (names : List (List ℕ)) × (more : List ℕ) × IsPath names × (path_text names ≡ text ++ more)

-- Some path begins with the first bytes of a text up to a place, and none with more of them.
pub record IsLongestStart (text : List ℕ) (place : ℕ) : Type 0 where
  pub within : place ≤ length text
  pub begins : BeginsPath (take place text)
  pub longest : (n : ℕ) → place < n → n ≤ length text → BeginsPath (take n text) → ⊥
