-- The work of the drill: which adds each processor is to make, and their sums (own).
use Rattle.std.specs.Prelude.{◌≡◌, ℕ, zero, suc, ◌+◌, ◌%◌, List, [], ◌∷◌, ◌++◌, map, length, take}
use Rattle.draws.specs.Draws.{next_state, drawn}
use Rattle.live_pages.specs.declared.touch.Touch.{Touch}
use Rattle.live_pages.specs.declared.touch.Touch.TheVariants.{Get, Put, Add}
use Rattle.live_pages.specs.declared.touch.Made.{Made}

-- the state of the generator after so many draws from x
abbrev pub state_after : ℕ → ℕ → ℕ
state_after zero x = x
state_after (suc i) x = next_state (state_after i x)

-- the word that add i adds
abbrev pub word_at : ℕ → ℕ
word_at i = 1 + i % 7

-- Add i of a processor whose generator begins with x: its frame, and the add to the first word of that frame's page.
abbrev pub add_at : ℕ → ℕ → ℕ → ℕ × Touch
add_at frames x i = (drawn frames (next_state (state_after i x)), Add 0 (word_at i))

-- the first n adds of a processor whose generator begins with x, in order
abbrev pub work_of : ℕ → ℕ → ℕ → List (ℕ × Touch)
work_of frames x zero = []
work_of frames x (suc n) = work_of frames x n ++ add_at frames x n ∷ []

-- the word that a touch adds
abbrev pub added : Touch → ℕ
added (Get i) = 0
added (Put i word) = 0
added (Add i word) = word

-- the sum of the words that these touches add
abbrev pub sum_of : List (ℕ × Touch) → ℕ
sum_of [] = 0
sum_of (t ∷ ts) = sum_of ts + added t.1

-- For each of the first n processors, in order, the sum of its work. The generator of processor c begins with seed + c.
abbrev pub sums_of : ℕ → ℕ → ℕ → ℕ → List ℕ
sums_of frames adds seed zero = []
sums_of frames adds seed (suc n) = sums_of frames adds seed n ++ sum_of (work_of frames (seed + n) adds) ∷ []

-- the frame and the touch of one that was made
abbrev pub deed : Made → ℕ × Touch
deed e = (e.frame, e.touch)

-- the touches that were made are the first ones of this work, in order
abbrev pub AreFirstOf : List (ℕ × Touch) → List Made → Type 0
AreFirstOf work made = map deed made ≡ take (length made) work
