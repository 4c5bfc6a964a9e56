-- How much of two lists is the same (own).
use Rattle.std.specs.Prelude.{ℕ, ◌+◌, if◌then◌else◌, List, [], ◌∷◌}
use Rattle.std.specs.Str.{bytes_eq}

-- how many texts at the front of two lists are the same
abbrev pub same_front : List (List ℕ) → List (List ℕ) → ℕ
same_front [] others = 0
same_front (text ∷ texts) [] = 0
same_front (text ∷ texts) (other ∷ others) = if bytes_eq text other then 1 + same_front texts others else 0

-- one more where two texts are the same
abbrev pub one_more : ℕ → List ℕ → List ℕ → ℕ
one_more n text other = if bytes_eq text other then n + 1 else n
