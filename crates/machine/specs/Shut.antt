-- What a step of the shutdown does (own).
use Rattle.std.specs.Prelude.{◌≡◌, ◌<◌, ◌++◌, ◌∷◌, ℕ, Bool, true, count_by, List, Option, Some, None}
use Rattle.mword.specs.Words.{AreZero}
use Rattle.script.specs.Plans.{Plan}
use Rattle.book.specs.declared.entries.Entry.{Entry}
use Rattle.book.specs.declared.entries.Entry.TheVariants as entry
use Rattle.flat_model.specs.Legal.{IsSettled}
use Rattle.flat_model.specs.Pages.{is_stored}
use Rattle.custody_model.specs.Clean.{custody_after}
use Rattle.custody_model.specs.Custody.{bound_page}
use Rattle.core_map.specs.CoreMap.{bound_page as bound_in}
use Rattle.page_control.specs.Picture.{words_at}
use Rattle.page_control.specs.Plain.{frame_in}
use Rattle.machine_model.specs.Keeps.{is_fault}
use Rattle.machine_model.specs.Reads.{flat_of, home_in}
use Rattle.machine_model.specs.Shutdown.{after_visit}
use Rattle.machine_model.specs.State.{State}
use Rattle.machine_model.specs.Visits.{TellsBack, WasVisited}
use Rattle.machine_tables.specs.Parts.{Parts}
use Rattle.machine.specs.Turns.{AreTold, CallsNone, GoesOn, LetsGo}

-- What a visit of frame f makes of the drives: a page that is in it is let go, and a frame without one needs no call.
abbrev pub CallsAtVisit : {D : Type 0} → (D → ℕ) → State → Option (ℕ × ℕ) → List D → List D → Bool → Type 0
CallsAtVisit faults s None old new failed = CallsNone old new failed
CallsAtVisit faults s (Some page) old new failed = LetsGo faults s s.visited old new failed

-- The next frame was visited, and nothing else was done.
abbrev pub HasVisited : {D Plan : Type 0} → (D → Plan) → (D → ℕ) → (D → ℕ) → Parts D → Parts D → Type 0
HasVisited plan places faults old new = GoesOn plan places old new (λ o. after_visit old.state o)
    (CallsAtVisit faults old.state (bound_in (frame_in old.state.store.pages old.state.visited)) old.drives new.drives)

-- What the entries that a visit adds tell of the drives: a failure just where a drive has counted one more, one at the
-- most, and of no process.
pub record TellsLoss {D : Type 0} (faults : D → ℕ) (old new : Parts D) : Type 0 where
  pub more : List Entry
  pub entries : new.state.entries ≡ old.state.entries ++ more
  pub told : AreTold faults old.drives new.drives (count_by is_fault more)
  pub of_none : (xs ys : List Entry) (k : Option ℕ) → more ≡ xs ++ entry.Fault k ∷ ys → k ≡ None

-- Each frame was visited. It has no page; or it kept one that isn't all zeros, and the book tells that the drive
-- failed, and right after it that the page is back.
abbrev pub AllVisited : State → Type 0
AllVisited s = (f : ℕ) → f < s.plan.frames → WasVisited s.store.pages s.entries f

-- A page that is in a frame after the book is one that a drive failed to take: the book tells the failure, of no
-- process, and right after it that the page is back.
abbrev pub AreToldBack : Plan → List Entry → Type 0
AreToldBack p entries = (f : ℕ) (page : ℕ × ℕ) → bound_page ((custody_after p entries).frame f) ≡ Some page
    → TellsBack entries f

-- the words of a page of a segment where it is: in its frame, if it is in one, or else on its record
abbrev pub words_of : State → ℕ → ℕ → List ℕ
words_of s uid page = words_at s.store.pages uid (home_in s.store uid) page

-- No page that is stored in the flat store after the book is all zeros where it is. So that store is settled.
pub record HasNoZeros (s : State) : Type 0 where
  pub pages : (uid page : ℕ) → is_stored (flat_of s).stored uid page ≡ true → AreZero (words_of s uid page) → ⊥
  pub settled : IsSettled s.plan (flat_of s)
