-- What the end of a transfer asks, and that the machine keeps its promise through it, however the call of the drive
-- ended.
use Rattle.machine.proofs.Prelude.{Bool, IsActive, IsKept, IsSound, OnErr, Parts, Result, Rose, Some, State, Storage, Transfer, after, cond, false, frame_at, length, outcome_of, processor_at, table_of, transfer_failed, transferred, true, with_faults, ℕ, ◌<◌, ◌≡◌, ◌≤◌, Frame as frame, Action as act}
use Rattle.machine.proofs.Does.{Does, found, keeps_of}
use Rattle.machine.proofs.ReadStays.{active_there, brought_as, lost_as, page_within, started}
use Rattle.machine.proofs.Stays.{ShowsAs, faithful_as}
use Rattle.machine.proofs.Steps.{IsStoreOf, drive_sound}

-- the page of a transfer may come into its frame
pub record IsEnding (st : Storage) (t : Transfer) : Type 0 where
  pub active : IsActive st.ast.entries t.uid
  pub page : t.page < length (table_of st.ast t.uid)
  pub started : frame_at st.pages.core t.frame ≡ frame.Started t.uid t.page

module _ {D : Type 0} {t : Parts D} {c : ℕ} {x : Transfer} (d : Does t c (act.EndTransfer x)) where
  abbrev s : State
  s = t.state

  mine : (processor_at s.processors c).cpu.transfer ≡ Some x
  mine = found d

  pub ending : IsEnding s.store x
  ending = assumption (
    active_there s c x (keeps_of d) mine,
    page_within s c x (keeps_of d) mine,
    started s c x (keeps_of d) mine,
  )

  -- however the read ended, the store shows what it showed
  ends_as : (b : Bool) (n : ℕ) (v : State) → v ≡ cond b (transfer_failed s c x n) (transferred (with_faults s n) c x)
      → IsKept v.store.pages v.store.ast v.store.links → ShowsAs s.store v.store
  ends_as true n v is kept = rw is (lost_as s c x (keeps_of d) mine)
  ends_as false n v is kept = rw is (brought_as s c x (keeps_of d) mine (rw is at kept))

  pub transfer_sound : {E : Type 0} {now : Parts D} (r : Result (Unit {0}) E)
      → now.state ≡ after s c (act.EndTransfer x) (outcome_of r now.state.faults) → now.room ≡ t.room
      → IsStoreOf now.state.store → (s.faults ≤ now.state.faults) × OnErr r (Rose s.faults now.state.faults)
      → IsSound now
  unfolding after
  transfer_sound {E} {now} r state room told = drive_sound d r state room told (λ f h. faithful_as shows s.plan f h)
    where
      shows : ShowsAs s.store now.state.store
      shows = ends_as (outcome_of r now.state.faults).failed (outcome_of r now.state.faults).faults now.state state
          told.kept
