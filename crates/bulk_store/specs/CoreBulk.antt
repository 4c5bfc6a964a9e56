-- What callers see of a bulk store in core, and of a drive of either kind (own).
use Rattle.std.specs.Prelude.{◌≡◌, ℕ, List, [], IsTrue, IfSome, IfNone, OnOk, OnErr, Result, length}
use Rattle.volumes.specs.CoreDrive.{DriveState, fresh_drive}
use Rattle.bulk_store.specs.Held.{place_of, is_fast_write, BulkAfter}
use Rattle.bulk_store.specs.Store.{Store, store_pages, disk_after, FailedWrite}

-- a bulk store over two drives in core
abbrev pub CoreStore : Type 0
CoreStore = Store DriveState DriveState

abbrev pub core_pages : CoreStore → List (List ℕ)
core_pages s = store_pages (λ (d : DriveState). d.pages) (λ (d : DriveState). d.pages) s

-- a fast store of so many pages of zeros, that never fails, before a disk; nothing is held
abbrev pub fresh_store : ℕ → DriveState → CoreStore
fresh_store places disk = record { fast = fresh_drive places []; disk = disk; held = [] }

-- no line names a call of the fast store that fails
pub record IsSure (s : CoreStore) : Type 0 where
  pub sure : s.fast.fails ≡ []

-- What a read of record r leaves: the list, and the pages of both drives; and of these the one that doesn't have the
-- page is as it was.
pub record HasReadBulk (old new : CoreStore) (r : ℕ) : Type 0 where
  pub list : new.held ≡ old.held
  pub fast_pages : new.fast.pages ≡ old.fast.pages
  pub disk_pages : new.disk.pages ≡ old.disk.pages
  pub alone : IfSome (place_of old.held r) (λ _. new.disk ≡ old.disk)
  pub other : IfNone (place_of old.held r) (new.fast ≡ old.fast)

-- What a write of record r leaves of the list and of the disk's pages, done or failed; and a write for which the fast
-- store is enough leaves the disk as it was.
pub record HasWrittenBulk {T E : Type 0} (old new : CoreStore) (r : ℕ) (result : Result T E) : Type 0 where
  pub list : OnOk result (BulkAfter (length old.fast.pages) old.held r new.held)
  pub disk_pages : OnOk result (new.disk.pages ≡ disk_after old.fast.pages old.disk.pages old.held r)
  pub failed : OnErr result (FailedWrite old.fast.pages old.disk.pages old.held r new.disk.pages new.held)
  pub alone : IsTrue (is_fast_write (length old.fast.pages) old.held r) → new.disk ≡ old.disk
