-- The parts of a text that a line parts: the lines before the first one that passes a test, and those after it (own).
use Rattle.std.specs.Prelude.{◌≡◌, ◌<◌, ℕ, ◌+◌, ◌-◌, Bool, if◌then◌else◌, List, [], ◌∷◌, ◌++◌, length, take, drop}
use Rattle.std.specs.List.{list_any}
use Rattle.text_model.specs.Lines.{lines_of}

-- the lines before the first such line; all, where there is none
unfoldable pub lines_before : (List ℕ → Bool) → List (List ℕ) → List (List ℕ)
lines_before test [] = []
lines_before test (line ∷ lines) = if test line then [] else line ∷ lines_before test lines

-- the lines after it; none, where there is none
unfoldable pub lines_after : (List ℕ → Bool) → List (List ℕ) → List (List ℕ)
lines_after test [] = []
lines_after test (line ∷ lines) = if test line then lines else lines_after test lines

-- the number of the first line after it, counted from 1 at the first line of all; where there is no such line, the
-- number of the line past the last
abbrev pub first_after : (List ℕ → Bool) → List (List ℕ) → ℕ
first_after test lines = length lines - length (lines_after test lines) + 1

-- The bytes up to a place are whole lines, none of which is such a line.
pub record ArePassed (test : List ℕ → Bool) (bytes : List ℕ) (at : ℕ) (before : List (List ℕ)) : Type 0 where
  pub lines : lines_of bytes ≡ before ++ lines_of (drop at bytes)
  pub front : lines_before test (lines_of bytes) ≡ before ++ lines_before test (lines_of (drop at bytes))
  pub rest : lines_after test (lines_of bytes) ≡ lines_after test (lines_of (drop at bytes))
  pub found : list_any test (lines_of bytes) ≡ list_any test (lines_of (drop at bytes))
  pub closed : at < length bytes → (rest : List ℕ) → lines_of (take at bytes ++ rest) ≡ before ++ lines_of rest

-- The reader is at this place, and the next line has that number.
pub record IsAtLine (test : List ℕ → Bool) (bytes : List ℕ) (at number : ℕ) : Type 0 where
  pub before : List (List ℕ)
  pub passed : ArePassed test bytes at before
  pub count : number ≡ length before + 1
