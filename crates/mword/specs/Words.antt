-- Lists of words of 36 bits.
use Rattle.std.specs.Prelude.{◌≡◌, ℕ, ◌^◌, ◌<◌, List, All}

-- each number of the list fits a word of 36 bits
abbrev pub AreWords : List ℕ → Type 0
AreWords words = All (λ word. word < 2 ^ 36) words

-- each number of the list is 0
abbrev pub AreZero : List ℕ → Type 0
AreZero words = All (λ word. word ≡ 0) words
