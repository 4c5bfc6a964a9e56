-- The texts of principals, and of the rows of an access control list (Organick 1972; the texts are own).
use Rattle.std.specs.Prelude.{ℕ, Bool, ◌&&◌, ◌==◌, if◌then◌else◌, List, ◌∷◌, ◌++◌, Option, Some, None, IfSome, codes}
use Rattle.std.specs.List.{before_first, after_first}
use Rattle.std.specs.Str.{bytes_eq}
use Rattle.mnames.specs.Names.{is_label, IsLabel}
use Rattle.mnames.specs.declared.principals.Who.{Who}
use Rattle.mnames.specs.declared.rows.Row.{Row}

-- the project of a person who names none
abbrev pub default_project : List ℕ
default_project = codes "Default"

abbrev pub is_dot : ℕ → Bool
is_dot b = b == 46

abbrev pub before_dot : List ℕ → List ℕ
before_dot text = before_first is_dot text

abbrev pub after_dot : List ℕ → List ℕ
after_dot text = after_first is_dot text

-- both parts of a principal are labels
pub record IsWho (who : Who) : Type 0 where
  pub person : IsLabel who.person
  pub project : IsLabel who.project

abbrev pub who_with : List ℕ → List ℕ → Option Who
who_with person project = if is_label person && is_label project
    then Some (record { person = person; project = project }) else None

-- the principal of a text: `Person.Project`, or a person alone, whose project is `Default`
unfoldable pub who_of : List ℕ → Option Who
who_of text = if is_label text then Some (record { person = text; project = default_project })
    else who_with (before_dot text) (after_dot text)

-- the canonical text of two parts: the first alone, where the second is `Default`
abbrev pub parts_text : List ℕ → List ℕ → List ℕ
parts_text person project = if bytes_eq project default_project then person else person ++ (46 ∷ project)

-- the canonical text of a principal
unfoldable pub who_text : Who → List ℕ
who_text who = parts_text who.person who.project

-- each part of a row is any or a label
pub record IsRow (row : Row) : Type 0 where
  pub person : IfSome row.person IsLabel
  pub project : IfSome row.project IsLabel

-- `*`, for any
abbrev pub any_text : List ℕ
any_text = codes "*"

-- a part of a row: any, or a label
unfoldable pub part_of : List ℕ → Option (Option (List ℕ))
part_of text = if bytes_eq text any_text then Some None else if is_label text then Some (Some text) else None

abbrev pub row_with : Option (Option (List ℕ)) → Option (Option (List ℕ)) → Option Row
row_with None project = None
row_with (Some person) None = None
row_with (Some person) (Some project) = Some (record { person = person; project = project })

-- one part alone: any is any person on any project, a person is on the project `Default`
abbrev pub row_alone : Option (List ℕ) → Row
row_alone None = record { person = None; project = None }
row_alone (Some person) = record { person = Some person; project = Some default_project }

abbrev pub row_or : Option (Option (List ℕ)) → Option Row → Option Row
row_or None other = other
row_or (Some part) other = Some (row_alone part)

-- the row of a text: one part alone, or both with a dot between them
unfoldable pub row_of : List ℕ → Option Row
row_of text = row_or (part_of text) (row_with (part_of (before_dot text)) (part_of (after_dot text)))

abbrev pub row_parts_text : Option (List ℕ) → Option (List ℕ) → List ℕ
row_parts_text None None = any_text
row_parts_text None (Some project) = any_text ++ (46 ∷ project)
row_parts_text (Some person) None = person ++ (46 ∷ any_text)
row_parts_text (Some person) (Some project) = parts_text person project

-- the canonical text of a row
unfoldable pub row_text : Row → List ℕ
row_text row = row_parts_text row.person row.project
