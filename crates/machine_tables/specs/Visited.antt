-- What a visit of the shutdown leaves of the flat store that is shown.
use Rattle.std.specs.Prelude.{ℕ, if◌then◌else◌, Option, Some, None, Result, Ok, Err}
use Rattle.page_control.specs.declared.Left.{Left}
use Rattle.flat_model.specs.Store.{Store}
use Rattle.machine_model.specs.After.{Outcome}
use Rattle.machine_model.specs.Said.{left_page, without_left}
use Rattle.machine_model.specs.State.{State}

-- once the page was to leave its frame
abbrev pub shown_left : {E : Type 0} → Result Left E → ℕ × ℕ → Store → Store
shown_left (Ok left) page t = without_left left page t
shown_left (Err e) page t = t

-- once the frame was visited, with the page that is in it
abbrev pub shown_visited : State → ℕ → Outcome → Option (ℕ × ℕ) → Store → Store
shown_visited s f o None t = t
shown_visited s f o (Some page) t = if o.failed then t else left_page s f t
