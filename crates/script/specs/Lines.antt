-- What each kind of line says, and why it is refused (own). A line is the list of its fields.
use Rattle.std.specs.Prelude.{ℕ, ◌+◌, ◌-◌, Bool, true, false, ◌==◌, if◌then◌else◌, List, [], ◌∷◌, length, take, slice_index_or, Option, Some, None, Result, Ok, Err, codes, ℤ, pos, neg_ℤ}
use Rattle.std.specs.List.{list_any}
use Rattle.std.specs.Str.{bytes_eq}
use Rattle.mnames.specs.Names.{is_name}
use Rattle.mnames.specs.Principals.{row_of, who_of}
use Rattle.mnames.specs.declared.modes.Mode.{Mode}
use Rattle.mnames.specs.declared.modes.Mode.TheVariants as mode
use Rattle.mnames.specs.declared.principals.Who.{Who}
use Rattle.mnames.specs.declared.rows.Row.{Row}
use Rattle.mword.specs.Octal.{octal_value}
use Rattle.script.specs.Fields.{decimal_value, path_of}
use Rattle.script.specs.Forms.{has_name, is_from}
use Rattle.script.specs.declared.plan.Print.{Print}
use Rattle.script.specs.declared.plan.Print.TheVariants as print
use Rattle.script.specs.declared.plan.VolumeLine.{VolumeLine}
use Rattle.script.specs.declared.refusals.Cause.{Cause}
use Rattle.script.specs.declared.refusals.Cause.TheVariants as cause

infixl 10 ◌>>=◌
-- the rest of a reading, where its start could be read
abbrev pub ◌>>=◌ : {A B : Type 0} → Result A Cause → (A → Result B Cause) → Result B Cause
(Ok x) >>= f = f x
(Err e) >>= f = Err e

-- a value that was found, or the cause that it wasn't
abbrev pub found_or : {A : Type 0} → Cause → Option A → Result A Cause
found_or why None = Err why
found_or why (Some x) = Ok x

-- a value where a test holds, or else a cause
abbrev pub only_if : {A : Type 0} → Cause → Bool → A → Result A Cause
only_if why b x = if b then Ok x else Err why

-- the fields of a line after its word, where there are so many
unfoldable pub no_fields : List (List ℕ) → Result (Unit {0}) Cause
no_fields [] = Ok tt
no_fields (f ∷ fs) = Err cause.Fields

-- the first field, and those after it
unfoldable pub next_field : List (List ℕ) → Result (List ℕ × List (List ℕ)) Cause
next_field [] = Err cause.Fields
next_field (f ∷ fs) = Ok (f, fs)

unfoldable pub one_field : List (List ℕ) → Result (List ℕ) Cause
one_field fields = do
  f ← next_field fields
  _ ← no_fields f.1
  Ok f.0

unfoldable pub two_fields : List (List ℕ) → Result (List ℕ × List ℕ) Cause
two_fields fields = do
  f ← next_field fields
  last ← one_field f.1
  Ok (f.0, last)

unfoldable pub three_fields : List (List ℕ) → Result (List ℕ × List ℕ × List ℕ) Cause
three_fields fields = do
  f ← next_field fields
  more ← two_fields f.1
  Ok (f.0, more.0, more.1)

unfoldable pub four_fields : List (List ℕ) → Result (List ℕ × List ℕ × List ℕ × List ℕ) Cause
four_fields fields = do
  f ← next_field fields
  more ← three_fields f.1
  Ok (f.0, more.0, more.1, more.2)

unfoldable pub six_fields : List (List ℕ) → Result (List ℕ × List ℕ × List ℕ × List ℕ × List ℕ × List ℕ) Cause
six_fields fields = do
  f ← next_field fields
  s ← next_field f.1
  more ← four_fields s.1
  Ok (f.0, s.0, more.0, more.1, more.2, more.3)

-- a number from low to high
abbrev pub in_range : ℕ → ℕ → Option ℕ → Result ℕ Cause
in_range low high None = Err cause.Number
in_range low high (Some n) = only_if cause.Number (is_from low high n) n

unfoldable pub number_in : ℕ → ℕ → List ℕ → Result ℕ Cause
number_in low high text = in_range low high (decimal_value text)

-- a word, in octal digits
abbrev pub word_in : List ℕ → Result ℕ Cause
word_in text = found_or cause.Number (octal_value text)

abbrev pub name_in : List ℕ → Result (List ℕ) Cause
name_in text = only_if cause.Name (is_name text) text

abbrev pub who_in : List ℕ → Result Who Cause
who_in text = found_or cause.Name (who_of text)

abbrev pub row_in : List ℕ → Result Row Cause
row_in text = found_or cause.Name (row_of text)

abbrev pub path_in : List ℕ → Result (List (List ℕ)) Cause
path_in text = found_or cause.Path (path_of text)

-- `n` nothing, `r` to read, `w` to write, `rw` both
unfoldable pub mode_in : List ℕ → Result Mode Cause
mode_in text = if bytes_eq text (codes "n") then Ok mode.Null else if bytes_eq text (codes "r") then Ok mode.Read
    else if bytes_eq text (codes "w") then Ok mode.Write else if bytes_eq text (codes "rw") then Ok mode.Both
    else Err cause.Name

unfoldable pub print_in : List ℕ → Result Print Cause
print_in text = if bytes_eq text (codes "short") then Ok print.Short
    else if bytes_eq text (codes "replies") then Ok print.Replies else if bytes_eq text (codes "all") then Ok print.All
    else Err cause.Name

-- whether a call is a write
unfoldable pub is_write_in : List ℕ → Result Bool Cause
is_write_in text = if bytes_eq text (codes "read") then Ok false else if bytes_eq text (codes "write") then Ok true
    else Err cause.Name

-- the number of the first volume of that name, where the volumes are counted from n
unfoldable pub number_from : ℕ → List VolumeLine → List ℕ → Option ℕ
number_from n [] name = None
number_from n (v ∷ vs) name = if has_name name v then Some n else number_from (n + 1) vs name

-- the number of a volume that was given, counted from 0
unfoldable pub volume_in : List VolumeLine → List ℕ → Result ℕ Cause
volume_in volumes text = do
  name ← name_in text
  found_or cause.Unknown (number_from 0 volumes name)

-- the name of a volume that wasn't given before
unfoldable pub new_name_in : List VolumeLine → List ℕ → Result (List ℕ) Cause
new_name_in volumes text = do
  name ← name_in text
  if list_any (has_name name) volumes then Err cause.Twice else Ok name

-- an amount of quota: `+N`, or `-N`
unfoldable pub amount_in : List ℕ → Result ℤ Cause
amount_in [] = Err cause.Number
amount_in (sign ∷ digits) = if sign == 43 then (number_in 1 16384 digits >>= λ n. Ok (pos n))
    else if sign == 45 then (number_in 1 16384 digits >>= λ n. Ok (neg_ℤ (pos n))) else Err cause.Number

-- whether a text ends with `+`
abbrev pub ends_with_plus : List ℕ → Bool
ends_with_plus text = slice_index_or text (length text - 1) 0 == 43

-- the number of a call that fails, and whether all after it do: `N`, or `N+`
unfoldable pub call_in : List ℕ → Result (ℕ × Bool) Cause
call_in text = if ends_with_plus text then (number_in 1 1000000 (take (length text - 1) text) >>= λ n. Ok (n, true))
    else (number_in 1 1000000 text >>= λ n. Ok (n, false))
