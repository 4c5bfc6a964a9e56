-- The lines of a text, and the fields of a line (own).
use Rattle.std.specs.Prelude.{◌≡◌, ℕ, ◌==◌, if◌then◌else◌, List, [], ◌∷◌, ◌++◌}

-- a byte at the front of the first of some pieces
abbrev pub onto_piece : ℕ → List (List ℕ) → List (List ℕ)
onto_piece b [] = (b ∷ []) ∷ []
onto_piece b (piece ∷ pieces) = (b ∷ piece) ∷ pieces

-- the lines of a text, without their line feeds; the last may lack its own, and is one only if it has a byte
unfoldable pub lines_of : List ℕ → List (List ℕ)
lines_of [] = []
lines_of (b ∷ bs) = if b == 10 then [] ∷ lines_of bs else onto_piece b (lines_of bs)

-- a byte that isn't a space, before what follows it and the fields of that
abbrev pub onto_field : ℕ → List ℕ → List (List ℕ) → List (List ℕ)
onto_field b [] fields = (b ∷ []) ∷ []
onto_field b (c ∷ cs) [] = (b ∷ []) ∷ []
onto_field b (c ∷ cs) (f ∷ fs) = if c == 32 then (b ∷ []) ∷ f ∷ fs else (b ∷ f) ∷ fs

-- the fields of a line: its longest pieces without a space
unfoldable pub fields_of : List ℕ → List (List ℕ)
fields_of [] = []
fields_of (b ∷ bs) = if b == 32 then fields_of bs else onto_field b bs (fields_of bs)

-- the bytes are a line with its line feed, whatever follows
abbrev pub Closes : List ℕ → List ℕ → Type 0
Closes front line = (rest : List ℕ) → lines_of (front ++ rest) ≡ line ∷ lines_of rest
