-- What callers see of a bulk store (own).
use Rattle.std.specs.Prelude.{◌≡◌, ◌+◌, ◌⊎◌, ℕ, false, List, [], ◌∷◌, ◌++◌, drop, length, slice_index_or, slice_set, if◌then◌else◌, Option, None, Some}
use Rattle.volumes.specs.declared.drive.FailLine.{FailLine}
use Rattle.bulk_store.specs.declared.index.Held.{Held}
use Rattle.bulk_store.specs.Held.{is_fast_write}
use Rattle.bulk_store.specs.Pages.{pages_of}

-- a bulk store: its fast store, its disk, and the records that the fast store holds, the oldest first
pub record Store (F D : Type 0) : Type 0 where
  pub fast : F
  pub disk : D
  pub held : List Held

-- its pages, where it is said what each of the two drives has
abbrev pub store_pages : {F D : Type 0} → (F → List (List ℕ)) → (D → List (List ℕ)) → Store F D → List (List ℕ)
store_pages fast_pages disk_pages s = pages_of (fast_pages s.fast) (disk_pages s.disk) s.held

-- its faults are those of both
abbrev pub store_faults : {F D : Type 0} → (F → ℕ) → (D → ℕ) → Store F D → ℕ
store_faults fast_faults disk_faults s = fast_faults s.fast + disk_faults s.disk

-- the lines of two plans, told where both are
abbrev pub both_plans : Option (List FailLine) → Option (List FailLine) → Option (List FailLine)
both_plans None disk = None
both_plans (Some fast) None = None
both_plans (Some fast) (Some disk) = Some (fast ++ disk)

-- its plan is the fast store's lines and then the disk's
abbrev pub store_plan : {F D : Type 0} → (F → Option (List FailLine)) → (D → Option (List FailLine)) → Store F D
    → Option (List FailLine)
store_plan fast_plan disk_plan s = both_plans (fast_plan s.fast) (disk_plan s.disk)

-- the disk's pages once it has the page of the oldest
abbrev pub with_oldest_page : List (List ℕ) → List (List ℕ) → List Held → List (List ℕ)
with_oldest_page fast disk [] = disk
with_oldest_page fast disk (h ∷ held) = slice_set disk h.number (slice_index_or fast h.place [])

-- the disk's pages after a done write of record r: as before, or with the page of the oldest where that gave way
abbrev pub disk_after : List (List ℕ) → List (List ℕ) → List Held → ℕ → List (List ℕ)
disk_after fast disk held r = if is_fast_write (length fast) held r then disk else with_oldest_page fast disk held

-- after a failed write of record r the list and the disk's pages are as before, or the oldest was taken out, to make
-- place, and the disk has its page
abbrev pub FailedWrite : List (List ℕ) → List (List ℕ) → List Held → ℕ → List (List ℕ) → List Held → Type 0
FailedWrite fast disk held r disk' held' =
    ((held' ≡ held) × (disk' ≡ disk))
    ⊎ ((is_fast_write (length fast) held r ≡ false) × (held' ≡ drop 1 held) × (disk' ≡ with_oldest_page fast disk held))
