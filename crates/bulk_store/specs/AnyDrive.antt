-- What callers see of a drive of either kind (own).
use Rattle.std.specs.Prelude.{◌≡◌, ◌↔◌, ℕ, List, Result, IsErr, IsTrue, OnOk, OnErr, length, true, false}
use Rattle.volumes.specs.FailLine.{names_next}
use Rattle.volumes.specs.CoreDrive.{DriveState, after_read, after_write, after_done_write}
use Rattle.bulk_store.specs.CoreBulk.{core_pages, CoreStore, HasReadBulk, HasWrittenBulk}
use Rattle.bulk_store.specs.declared.any_drive.AnyDrive.{AnyDrive}
use Rattle.bulk_store.specs.declared.any_drive.AnyDrive.TheVariants.{Plain, Bulk}

-- the disk, which is the drive itself where no fast store stands before it
abbrev pub disk_of : AnyDrive → DriveState
disk_of (Plain drive) = drive
disk_of (Bulk store) = store.disk

-- the pages
abbrev pub any_pages : AnyDrive → List (List ℕ)
any_pages (Plain drive) = drive.pages
any_pages (Bulk store) = core_pages store

-- how many pages the fast store holds, if there is one
abbrev pub any_places : AnyDrive → ℕ
any_places (Plain drive) = 0
any_places (Bulk store) = length store.fast.pages

-- What a read of record r does to a drive of either kind. A disk alone has made one read more, which fails exactly
-- where
-- a line names it; with a fast store before it, it does what the bulk store does.
abbrev pub HasReadAny : {T E : Type 0} → AnyDrive → AnyDrive → ℕ → Result T E → Type 0
HasReadAny (Plain d) now r result =
    (now ≡ Plain (after_read d)) × (IsErr result ↔ IsTrue (names_next d.fails false d.reads))
HasReadAny (Bulk s) now r result = (t : CoreStore) × (now ≡ Bulk t) × HasReadBulk s t r

-- What a write of record r does to it. A disk alone has made one write more, and has the page, or failed exactly
-- where a
-- line names that call.
pub record HasWrittenDisk {T E : Type 0} (d : DriveState) (now : AnyDrive) (r : ℕ) (words : List ℕ)
    (result : Result T E) : Type 0 where
  pub fails : IsErr result ↔ IsTrue (names_next d.fails true d.writes)
  pub ok : OnOk result (now ≡ Plain (after_done_write d r words))
  pub err : OnErr result (now ≡ Plain (after_write d))

abbrev pub HasWrittenAny : {T E : Type 0} → AnyDrive → AnyDrive → ℕ → List ℕ → Result T E → Type 0
HasWrittenAny (Plain d) now r words result = HasWrittenDisk d now r words result
HasWrittenAny (Bulk s) now r words result = (t : CoreStore) × (now ≡ Bulk t) × HasWrittenBulk s t r result
