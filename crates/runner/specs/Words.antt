-- What the program's words ask for. (own)
use Rattle.std.specs.Prelude.{ℕ, ◌≤◌, ◌&&◌, nat_le, if◌then◌else◌, List, [], ◌∷◌, Option, Some, None, codes}
use Rattle.std.specs.Str.{bytes_eq}
use Rattle.live_doors.specs.declared.rule.TheConstants.{MOST_CPUS}
use Rattle.script.specs.Fields.{number_of}
use Rattle.runner.specs.declared.words.Form.{Form}
use Rattle.runner.specs.declared.words.Form.TheVariants as form

-- `make` with this number, where it is one
abbrev pub make_of : Option ℕ → Option Form
make_of None = None
make_of (Some n) = Some (form.Make n)

-- the number, where it is from low to high
abbrev pub within : ℕ → ℕ → Option ℕ → Option ℕ
within low high None = None
within low high (Some n) = if nat_le low n && nat_le n high then Some n else None

-- `drill` with these numbers, where each is one in its range
abbrev pub drill_of : Option ℕ → Option ℕ → Option ℕ → Option ℕ → Option Form
drill_of (Some p) (Some f) (Some n) (Some seed) = Some (form.Drill p f n seed)
drill_of _ _ _ _ = None

-- what the words ask for; None where they are no form of the program
unfoldable pub form_of : List (List ℕ) → Option Form
form_of (word ∷ []) =
    if bytes_eq word (codes "run")
    then Some form.Run
    else if bytes_eq word (codes "check") then Some form.Check else None
form_of (word ∷ number ∷ []) = if bytes_eq word (codes "make") then make_of (number_of number) else None
form_of (word ∷ p ∷ f ∷ n ∷ seed ∷ []) =
    if bytes_eq word (codes "drill")
    then drill_of (within 1 MOST_CPUS (number_of p)) (within 4 64 (number_of f)) (within 1 10000 (number_of n))
    (number_of seed)
    else None
form_of _ = None

-- the numbers of a drill are in their ranges
abbrev pub IsInRange : Form → Type 0
IsInRange (form.Drill p f n seed) =
    ((1 ≤ p) × (p ≤ MOST_CPUS)) × ((4 ≤ f) × (f ≤ 64)) × ((1 ≤ n) × (n ≤ 10000))
IsInRange _ = Unit {0}
