-- What a line of a script has, and what a field stands for (own).
use Rattle.std.specs.Prelude.{◌≡◌, true, false, ℕ, ◌+◌, ◌-◌, ◌*◌, Bool, ◌&&◌, ◌==◌, nat_le, if◌then◌else◌, List, [], ◌∷◌, length, Option, ◌<◌, ◌≤◌, slice_index, Some, None}
use Rattle.std.specs.List.{list_all}
use Rattle.std.specs.Char.{is_ascii_digit}
use Rattle.text_model.specs.Lines.{onto_piece}
use Rattle.script.specs.Forms.{is_path}

-- a printable ASCII character, or a space
abbrev pub is_printable_byte : ℕ → Bool
is_printable_byte b = nat_le 32 b && nat_le b 126

unfoldable pub is_printable : List ℕ → Bool
is_printable line = list_all is_printable_byte line

-- each byte before a place is printable
abbrev pub IsPrintableTo : List ℕ → ℕ → Type 0
IsPrintableTo bytes n = (k : ℕ) → k < n → is_printable_byte (slice_index bytes k) ≡ true

-- of so many bytes from a place on this many come before the first that isn't printable
pub record IsFront (bytes : List ℕ) (at n run : ℕ) : Type 0 where
  pub most : run ≤ n
  pub front : (k : ℕ) → at ≤ k → k < at + run → is_printable_byte (slice_index bytes k) ≡ true
  pub end : run < n → is_printable_byte (slice_index bytes (at + run)) ≡ false

-- the number that decimal digits stand for, after another number
unfoldable pub decimal_value_from : ℕ → List ℕ → Option ℕ
decimal_value_from before [] = Some before
decimal_value_from before (d ∷ ds) = if is_ascii_digit d then decimal_value_from (before * 10 + (d - 48)) ds else None

-- a number: 1 to 10 decimal digits
unfoldable pub decimal_value : List ℕ → Option ℕ
decimal_value text = if nat_le 1 (length text) && nat_le (length text) 10 then decimal_value_from 0 text else None

-- a number up to a greatest one
abbrev pub up_to : ℕ → Option ℕ → Option ℕ
up_to most None = None
up_to most (Some n) = if nat_le n most then Some n else None

-- a number of 32 bits: 1 to 10 decimal digits, of at most 4294967295
unfoldable pub number_of : List ℕ → Option ℕ
number_of text = up_to 4294967295 (decimal_value text)

-- the pieces of a text between its signs `>`, at least one
unfoldable pub pieces_of : List ℕ → List (List ℕ)
pieces_of [] = [] ∷ []
pieces_of (b ∷ bs) = if b == 62 then [] ∷ pieces_of bs else onto_piece b (pieces_of bs)

abbrev pub if_path : List (List ℕ) → Option (List (List ℕ))
if_path names = if is_path names then Some names else None

-- the names of the path that a text is: `>` for the root, else each name with `>` before it
unfoldable pub path_of : List ℕ → Option (List (List ℕ))
path_of [] = None
path_of (b ∷ []) = if b == 62 then Some [] else None
path_of (b ∷ c ∷ cs) = if b == 62 then if_path (pieces_of (c ∷ cs)) else None
