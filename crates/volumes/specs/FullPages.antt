-- The pages that a drive holds (Organick 1972).
use Rattle.std.specs.Prelude.{◌≡◌, ℕ, List, length, All}

-- each page has 1024 words
abbrev pub HaveFullPages : List (List ℕ) → Type 0
HaveFullPages disk = All (λ words. length words ≡ 1024) disk
