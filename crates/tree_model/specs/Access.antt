-- Access control lists: who may do what with a segment (Bensoussan, Clingen and Daley 1972).
use Rattle.std.specs.Prelude.{ℕ, Bool, true, false, ◌&&◌, ◌||◌, nat_lt, if◌then◌else◌, unwrap_or, List, [], ◌∷◌, length, Option, Some, None}
use Rattle.std.specs.Str.{bytes_eq}
use Rattle.mnames.specs.declared.principals.Who.{Who}
use Rattle.mnames.specs.declared.modes.Mode.{Mode}
use Rattle.mnames.specs.declared.modes.Mode.TheVariants as mode

-- a row of a list: the person and the project that it names, none for any, and what it allows them
pub record Row : Type 0 where
  pub person : Option (List ℕ)
  pub project : Option (List ℕ)
  pub mode : Mode

-- a part of a row is any, or this one
abbrev pub is_part : Option (List ℕ) → Option (List ℕ) → Bool
is_part None None = true
is_part (Some a) (Some b) = bytes_eq a b
is_part _ _ = false

-- a row names just these parts
abbrev pub names_just : Option (List ℕ) → Option (List ℕ) → Row → Bool
names_just person project row = is_part person row.person && is_part project row.project

-- the mode of the first row that names just these parts, if there is one
abbrev pub mode_at : Option (List ℕ) → Option (List ℕ) → List Row → Option Mode
mode_at person project [] = None
mode_at person project (row ∷ rows) = if names_just person project row then Some row.mode
    else mode_at person project rows

-- what a list allows: by the row of the person and the project, else that of the person on any
-- project, else that of anyone on the project, else that of anyone, else nothing
unfoldable pub access_of : Who → List Row → Mode
access_of who rows =
    unwrap_or (mode_at (Some who.person) (Some who.project) rows)
    (unwrap_or (mode_at (Some who.person) None rows)
    (unwrap_or (mode_at None (Some who.project) rows)
    (unwrap_or (mode_at None None rows)
    mode.Null)))

-- a list with a row set: in the place of the first row that names the same, else at the end
abbrev pub with_row : Row → List Row → List Row
with_row new [] = new ∷ []
with_row new (row ∷ rows) = if names_just new.person new.project row then new ∷ rows else row ∷ with_row new rows

-- some row names just these parts
abbrev pub has_row : Option (List ℕ) → Option (List ℕ) → List Row → Bool
has_row person project [] = false
has_row person project (row ∷ rows) = names_just person project row || has_row person project rows

-- a list takes a row that it has, and others while it has fewer than 16 (own)
abbrev pub takes_row : Option (List ℕ) → Option (List ℕ) → List Row → Bool
takes_row person project rows = has_row person project rows || nat_lt (length rows) 16
