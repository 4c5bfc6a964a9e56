-- Octal text of words: Multics writes a word of 36 bits as twelve octal digits (Organick 1972).
use Rattle.std.specs.Prelude.{ℕ, zero, suc, ◌+◌, ◌-◌, ◌*◌, ◌/◌, ◌%◌, ◌≤◌, Bool, ◌&&◌, nat_le, if◌then◌else◌, List, [], ◌∷◌, ◌++◌, length, fold, All, Option, Some, None}
use Rattle.std.specs.List.{list_all}

-- the last `count` octal digits of a number in ASCII, the highest first
unfoldable pub octal_digits : ℕ → ℕ → List ℕ
octal_digits zero n = []
octal_digits (suc count) n = octal_digits count (n / 8) ++ (48 + n % 8) ∷ []

-- a byte is one of the ASCII digits 0 to 7
abbrev pub is_octal_digit : ℕ → Bool
is_octal_digit byte = nat_le 48 byte && nat_le byte 55

-- the number that octal digits stand for
unfoldable pub octal_number : List ℕ → ℕ
octal_number digits = fold (λ number digit. number * 8 + (digit - 48)) 0 digits

-- a text is 1 to 12 octal digits
unfoldable pub is_octal : List ℕ → Bool
is_octal text = nat_le 1 (length text) && nat_le (length text) 12 && list_all is_octal_digit text

-- the word that a text stands for, if it is one
unfoldable pub octal_value : List ℕ → Option ℕ
octal_value text = if is_octal text then Some (octal_number text) else None

-- the same in facts: a text is 1 to 12 octal digits
pub record IsOctal (text : List ℕ) : Type 0 where
  pub some : 1 ≤ length text
  pub within : length text ≤ 12
  pub digits : All (λ byte. (48 ≤ byte) × (byte ≤ 55)) text
