-- What the tables of a machine have.
use Rattle.std.specs.Prelude.{◌≡◌, ℕ, true, false, replicate, sum_by, List, Result, Ok, Err, IsOk}
use Rattle.accounts.specs.Maps.{AccountMaps}
use Rattle.page_control.specs.Effects.{NeedsNoWrite}
use Rattle.page_control.specs.Plain.{Plain, plain}
use Rattle.storage_ops.specs.Shown.{Storage as Stored}
use Rattle.machine_model.specs.State.{State, Storage}
use Rattle.machine_model.specs.After.{Outcome}
use Rattle.machine_model.specs.Steps.{with_faults, with_pages, with_store}

-- the machine's state; how many processes the ready list has room for; the drives
pub record Parts (D : Type 0) : Type 0 where
  pub state : State
  pub room : ℕ
  pub drives : List D

abbrev pub with_state : {D : Type 0} → Parts D → State → Parts D
with_state t s = record t { state = s }

-- the same tables with other frames, drives, records and VTOCs
abbrev pub with_pages_of : {D : Type 0} → Parts D → Plain → Parts D
with_pages_of t pages = with_state t (with_store t.state (with_pages t.state.store pages))

-- the same tables with other drives, which have counted so many failures
abbrev pub with_drives : {D : Type 0} → Parts D → List D → ℕ → Parts D
with_drives t drives faults = record t { state = with_faults t.state faults; drives = drives }

-- a store with other accounts
abbrev pub with_accounts : Storage → AccountMaps → Storage
with_accounts st accounts = record st { accounts = accounts }

-- all but the book, the store and the owner is as it was
abbrev pub KeepsSeats : State → State → Type 0
KeepsSeats old new =
    new ≡ record old { entries = new.entries; spare = new.spare; store = new.store; owner = new.owner }

-- how a call of a drive ended, after which the drives have counted so many failures
abbrev pub outcome_of : {T E : Type 0} → Result T E → ℕ → Outcome
outcome_of (Ok x) faults = record { failed = false; faults = faults }
outcome_of (Err e) faults = record { failed = true; faults = faults }

-- a page that is all zeros, or as its record has it, leaves its frame with no call of a drive
abbrev pub SparesCall : {D T E : Type 0} → Plain → ℕ → List D → List D → Result T E → Type 0
SparesCall pages f old new result = NeedsNoWrite pages f → IsOk result × (new ≡ old)

-- a store, whose drives are seen as the words of their records
abbrev pub shown : {D : Type 0} → (D → List (List ℕ)) → Stored D → Storage
shown pages t = record {
  accounts = t.accounts;
  pages = plain pages t.segs.pages;
  ast = t.segs.ast;
  links = t.segs.links;
  whos = t.whos;
  moving = t.segs.moving;
}

-- the same tables over another store
abbrev pub with_stored : {D : Type 0} → Parts D → (D → List (List ℕ)) → (D → ℕ) → Stored D → Parts D
with_stored x pages faults t = record {
  state = record x.state { store = shown pages t; faults = sum_by faults t.segs.pages.volumes.drives };
  room = x.room;
  drives = t.segs.pages.volumes.drives;
}

-- so many frames of zeros
abbrev pub first_words : ℕ → List (List ℕ)
first_words frames = replicate frames (replicate 1024 0)
