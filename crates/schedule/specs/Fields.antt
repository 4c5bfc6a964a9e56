-- The fields of a line of a schedule (own).
use Rattle.std.specs.Prelude.{◌≡◌, ℕ, Bool, true, false, ◌&&◌, if◌then◌else◌, List, [], ◌∷◌, Option, Some, None, Result, Ok, Err}
use Rattle.std.specs.Str.{bytes_eq}
use Rattle.schedule.specs.declared.refusals.Cause.{Cause}
use Rattle.schedule.specs.declared.refusals.Cause.TheVariants as cause

infixl 10 ◌>>=◌
-- the rest of a reading, where its start could be read
abbrev pub ◌>>=◌ : {A B : Type 0} → Result A Cause → (A → Result B Cause) → Result B Cause
(Ok x) >>= f = f x
(Err e) >>= f = Err e

-- what a function returned, seen by view, is what the fields say, or the cause why they say nothing
abbrev pub Gives : {A B : Type 0} → (A → B) → Result A Cause → Result B Cause → Type 0
Gives view (Ok x) read = read ≡ Ok (view x)
Gives view (Err e) read = read ≡ Err e

abbrev pub has_none : List (List ℕ) → Bool
has_none [] = true
has_none (f ∷ fs) = false

-- no field is left
unfoldable pub no_fields : List (List ℕ) → Result (Unit {0}) Cause
no_fields [] = Ok tt
no_fields (f ∷ fs) = Err cause.Fields

-- the first field, and those after it
unfoldable pub next_field : List (List ℕ) → Result (List ℕ × List (List ℕ)) Cause
next_field [] = Err cause.Fields
next_field (f ∷ fs) = Ok (f, fs)

-- the fields after the first, where that is this one
abbrev pub after_word : List ℕ → List (List ℕ) → Option (List (List ℕ))
after_word word [] = None
after_word word (field ∷ fields) = if bytes_eq field word then Some fields else None

-- whether fields begin with these, field by field
abbrev pub begins : List (List ℕ) → List (List ℕ) → Bool
begins [] fields = true
begins (word ∷ words) [] = false
begins (word ∷ words) (field ∷ fields) = bytes_eq field word && begins words fields
