-- What the program's words ask for (own).
use Rattle.std.specs.Prelude.{ℕ, ◌≤◌, ◌+◌, ◌-◌, ◌^◌, if◌then◌else◌, List, [], ◌∷◌, Option, Some, None, codes}
use Rattle.std.specs.Str.{bytes_eq}
use Rattle.runner.specs.Words.{within}
use Rattle.script.specs.Fields.{number_of}
use Rattle.lab_calls.specs.declared.words.Form.{Form}
use Rattle.lab_calls.specs.declared.words.Form.TheVariants as form

-- `outcomes` of so many runs, where the seed is a number, and so are those of the later runs
abbrev pub outcomes_from : ℕ → Option ℕ → Option Form
outcomes_from runs None = None
outcomes_from runs (Some seed) = Some (form.Outcomes runs seed)

abbrev pub outcomes_of : Option ℕ → Option ℕ → Option Form
outcomes_of None seed = None
outcomes_of (Some runs) seed = outcomes_from runs (within 0 (4294967295 - (runs - 1)) seed)

-- what the words ask for; None where they are no form of the program
unfoldable pub form_of : List (List ℕ) → Option Form
form_of (word ∷ []) =
    if bytes_eq word (codes "steps")
    then Some form.Steps
    else if bytes_eq word (codes "trace")
    then Some form.Trace
    else if bytes_eq word (codes "why") then Some form.Why else None
form_of (word ∷ runs ∷ seed ∷ []) =
    if bytes_eq word (codes "outcomes")
    then outcomes_of (within 1 10000 (number_of runs)) (number_of seed)
    else None
form_of _ = None

-- the seeds of all runs are numbers of 32 bits
abbrev pub IsInRange : Form → Type 0
IsInRange (form.Outcomes runs seed) = seed + runs ≤ 2 ^ 32
IsInRange _ = Unit {0}

-- the most bytes of the input: of a script, or of one with its schedule
abbrev pub limit_of : Form → ℕ
limit_of (form.Outcomes runs seed) = 4194304
limit_of _ = 134217728
