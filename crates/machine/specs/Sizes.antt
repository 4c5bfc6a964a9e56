-- How large a machine's drives are.
use Rattle.std.specs.Prelude.{◌≡◌, ℕ, length, slice_get, List, Some}
use Rattle.script.specs.Plans.{Plan}
use Rattle.flat_model.specs.Store.{records_of}

-- each drive has as many records as the script gives its volume
abbrev pub HaveSizes : {D : Type 0} → (D → List (List ℕ)) → List D → Plan → Type 0
HaveSizes pages drives p = (v : ℕ) (drive : _) → slice_get drives v ≡ Some drive
    → length (pages drive) ≡ records_of p v
