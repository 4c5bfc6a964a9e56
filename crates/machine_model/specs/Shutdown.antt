-- The machine after a step of the shutdown, which visits the next frame: a page that is in it leaves it, or comes back
-- where the drive failed.
use Rattle.std.specs.Prelude.{ℕ, ◌+◌, [], ◌∷◌, Option, Some, None}
use Rattle.book.specs.declared.entries.Entry.TheVariants as entry
use Rattle.core_map.specs.CoreMap.{bound_page}
use Rattle.page_control.specs.Plain.{frame_in}
use Rattle.machine_model.specs.State.{State}
use Rattle.machine_model.specs.Steps.{booked, with_store, with_faults, fault_told}
use Rattle.machine_model.specs.Jobs.{page_back, page_gone, with_leaving}
use Rattle.machine_model.specs.After.{Outcome, by_outcome}

-- a page is taken; nobody holds it any more
abbrev pub page_taken : State → ℕ → State
page_taken s f = booked (with_store s (with_leaving s.store f)) (entry.Take f ∷ [])

abbrev pub visited_if : State → ℕ → Outcome → Option (ℕ × ℕ) → State
visited_if s f o None = s
visited_if s f o (Some page) =
    let now = page_taken s f in
    by_outcome o (page_gone (with_faults now o.faults) f) (page_back (fault_told now None o.faults) f)

abbrev pub after_visit : State → Outcome → State
after_visit s o =
    record (visited_if s s.visited o (bound_page (frame_in s.store.pages s.visited))) { visited = s.visited + 1 }
