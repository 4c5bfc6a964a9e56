-- What a job takes it takes whole: while a segment is being made inactive, all its pages and descriptors are on their
-- way out (own).
use Rattle.std.specs.Prelude.{◌≡◌, ◌≢◌, ℕ, true, Option, Some, None}
use Rattle.book.specs.declared.entries.Entry.{Entry}
use Rattle.book.specs.declared.entries.Entry.TheVariants as entry
use Rattle.custody_model.specs.Custody.{Custody, is_going_descriptor, is_going_frame, leads_to, page_of, uid_of_page}
use Rattle.machine_model.specs.declared.Aim.{Aim}
use Rattle.machine_model.specs.declared.Aim.TheVariants as aim
use Rattle.machine_model.specs.declared.Phase.{Phase}
use Rattle.machine_model.specs.declared.Phase.TheVariants as phase
use Rattle.machine_model.specs.Holding.{holding}
use Rattle.machine_model.specs.State.{Owner, State}

-- each page of a segment that is in a frame or being read into one is going, and each descriptor that leads to it
pub record IsWhole (c : Custody) (u : ℕ) : Type 0 where
  pub pages : (f : ℕ) → uid_of_page (page_of (c.frame f)) ≡ Some u → is_going_frame (c.frame f) ≡ true
  pub descriptors : (k n : ℕ) → leads_to (c.descriptor k n) ≡ Some u → is_going_descriptor (c.descriptor k n) ≡ true

-- the segment that a job makes inactive
abbrev pub aimed_at : Aim → Option ℕ
aimed_at aim.Evicting = None
aimed_at (aim.Deactivating u) = Some u
aimed_at aim.Committing = None

abbrev pub goes_in : Phase → Option ℕ
goes_in phase.Looking = None
goes_in (phase.Taken aim w) = aimed_at aim
goes_in (phase.Waiting aim w) = aimed_at aim
goes_in (phase.Moving m) = None

abbrev pub going_for : Option Owner → Option ℕ
going_for None = None
going_for (Some o) = goes_in o.phase

-- Between two steps, what goes of a segment that is being made inactive is all of it. (It isn't so within a step, while
-- the pages are taken one after the other.)
pub record TakenWhole (s : State) : Type 0 where
  pub whole : (u : ℕ) → going_for s.owner ≡ Some u → IsWhole (holding s) u

-- an entry brings nothing of a segment, and gives nothing of it back
abbrev pub Spares : ℕ → Entry → Type 0
Spares u (entry.Start f v q) = v ≢ u
Spares u (entry.Here f v q) = v ≢ u
Spares u (entry.Connect k n v) = v ≢ u
Spares u (entry.BackPage f) = ⊥
Spares u (entry.BackSeg k n) = ⊥
Spares u _ = Unit {0}
