-- The lines of an input: a script, a line `schedule`, and the lines of a schedule (own).
use Rattle.std.specs.Prelude.{ℕ, ◌+◌, ◌-◌, Bool, false, if◌then◌else◌, List, [], ◌∷◌, length, codes}
use Rattle.std.specs.List.{list_any}
use Rattle.std.specs.Str.{bytes_eq}
use Rattle.text_model.specs.Lines.{fields_of}
use Rattle.text_model.specs.Parts.{first_after, lines_after, lines_before}

-- the only field of a line is `schedule`
unfoldable pub is_schedule : List (List ℕ) → Bool
is_schedule (word ∷ []) = bytes_eq word (codes "schedule")
is_schedule _ = false

abbrev pub is_schedule_line : List ℕ → Bool
is_schedule_line line = is_schedule (fields_of line)

-- whether a line is such a line
abbrev pub has_schedule : List (List ℕ) → Bool
has_schedule lines = list_any is_schedule_line lines

-- the lines before the first such line; all, where there is none
abbrev pub script_lines : List (List ℕ) → List (List ℕ)
script_lines lines = lines_before is_schedule_line lines

-- the lines after it; none, where there is none
abbrev pub schedule_lines : List (List ℕ) → List (List ℕ)
schedule_lines lines = lines_after is_schedule_line lines

-- the number of the first line of the schedule, counted from 1 at the first line of all; where there is no line
-- `schedule`, the number of the line past the last
abbrev pub first_number : List (List ℕ) → ℕ
first_number lines = first_after is_schedule_line lines
