-- The lines of an input: a script, a line `book`, and the lines of a listing (own).
use Rattle.std.specs.Prelude.{ℕ, ◌+◌, ◌-◌, Bool, ◌==◌, ◌&&◌, if◌then◌else◌, List, [], ◌∷◌, length, take, drop, fold, slice_index_or, Result, Ok, codes}
use Rattle.std.specs.List.{list_all}
use Rattle.std.specs.Str.{bytes_eq}
use Rattle.script.specs.Drafts.{blank}
use Rattle.script.specs.Grammar.{finished, numbered}
use Rattle.script.specs.Plans.{Plan}
use Rattle.script.specs.declared.refusals.Refusal.{Refusal}
use Rattle.text_model.specs.Parts.{first_after, lines_after, lines_before}

-- a line from its first byte on that isn't a space
abbrev pub after_spaces : List ℕ → List ℕ
after_spaces [] = []
after_spaces (b ∷ bs) = if b == 32 then after_spaces bs else b ∷ bs

abbrev pub are_spaces : List ℕ → Bool
are_spaces bytes = list_all (λ b. b == 32) bytes

-- a line whose only field is `book`: spaces, the word, and nothing but spaces after it
unfoldable pub is_book : List ℕ → Bool
is_book line = bytes_eq (take 4 (after_spaces line)) (codes "book") && are_spaces (drop 4 (after_spaces line))

-- the lines before the first such line; all, where there is none
abbrev pub script_lines : List (List ℕ) → List (List ℕ)
script_lines lines = lines_before is_book lines

-- the lines after it; none, where there is none
abbrev pub listing_lines : List (List ℕ) → List (List ℕ)
listing_lines lines = lines_after is_book lines

-- the number of the first line of the listing, counted from 1 at the first line of all; where there is no line `book`,
-- the number of the line past the last
abbrev pub first_number : List (List ℕ) → ℕ
first_number lines = first_after is_book lines

-- the script that some lines are, or the first of them that is refused and why
unfoldable pub script_of_lines : List (List ℕ) → Result Plan Refusal
script_of_lines lines = finished (fold numbered (Ok (1, blank)) lines)

-- ---- the lines of a listing

-- a line of the summary begins with `>`, as the first account's does
abbrev pub is_summary : List ℕ → Bool
is_summary line = slice_index_or line 0 0 == 62

-- the lines up to the first such one, and those from it on
unfoldable pub entry_lines : List (List ℕ) → List (List ℕ)
entry_lines [] = []
entry_lines (line ∷ lines) = if is_summary line then [] else line ∷ entry_lines lines

unfoldable pub summary_lines : List (List ℕ) → List (List ℕ)
summary_lines [] = []
summary_lines (line ∷ lines) = if is_summary line then line ∷ lines else summary_lines lines
