-- A segment that moves to another volume: what each call leaves of records and VTOCs (own).
use Rattle.std.specs.Prelude.{◌≡◌, ◌≢◌, ◌<◌, ◌≤◌, ◌+◌, ◌^◌, ℕ, Option, None, Some, length, count_by, is_some, slice_set}
use Rattle.vtoc.specs.Vtoc.{entry_at, least_free_entry}
use Rattle.volumes.specs.Volumes.{Vols, records_at, used_at, vtoc_at}
use Rattle.seg_mover.specs.declared.Mover.{Mover}
use Rattle.seg_mover.specs.Homes.{uid_at, map_at, place_at}
use Rattle.seg_mover.specs.Records.{AreKept, flags_taken, map_taken, flags_given}

-- Segment uid has the home `from`. Volume `to` is another, with a free entry, and with as many free records as the file
-- map names; a record's number there has 16 bits and isn't the highest.
pub record CanBegin {D : Type 0} (vols : Vols D) (uid : ℕ) (from : ℕ × ℕ) (to : ℕ) : Type 0 where
  pub source : from.0 < length vols.drives
  pub target : to < length vols.drives
  pub other : from.0 ≢ to
  pub used : uid_at vols from ≡ Some uid
  pub entry : count_by is_some (vtoc_at vols to) < length (vtoc_at vols to)
  pub room : used_at vols to + count_by is_some (map_at vols from) ≤ length (records_at vols to)
  pub short : length (records_at vols to) < 2 ^ 16

-- the number that is there, and 0 where there is none
abbrev pub number_or_zero : Option ℕ → ℕ
number_or_zero None = 0
number_or_zero (Some n) = n

-- the least free entry of volume v
abbrev pub entry_for : {D : Type 0} → Vols D → ℕ → ℕ
entry_for vols v = number_or_zero (least_free_entry (vtoc_at vols v))

-- The volumes after a move began: on volume `to` the least free entry is the segment's, and its file map names a record
-- for exactly the pages that the old one names, for each in order of page the least free one.
abbrev pub begun : {D : Type 0} → Vols D → ℕ → ℕ × ℕ → ℕ → Vols D
begun vols uid from to = record vols {
  records = slice_set vols.records to (flags_taken (records_at vols to) (map_at vols from));
  vtocs = slice_set vols.vtocs to (slice_set (vtoc_at vols to) (entry_for vols to)
      (Some (record { uid = uid; records = map_taken (records_at vols to) (map_at vols from) })));
}

-- and the mover of it
abbrev pub mover_for : {D : Type 0} → Vols D → ℕ → ℕ × ℕ → ℕ → Mover
mover_for vols uid from to = record { uid = uid; from = from; to = (to, entry_for vols to); next = 0 }

-- the volumes after a home is given up: the records that its file map names are free, and so is the entry
abbrev pub given_back : {D : Type 0} → Vols D → ℕ × ℕ → Vols D
given_back vols home = record vols {
  records = slice_set vols.records home.0 (flags_given (records_at vols home.0) (map_at vols home));
  vtocs = slice_set vols.vtocs home.0 (slice_set (vtoc_at vols home.0) home.1 None);
}

-- the volumes after a move is committed, which gives the old home up; and after it is undone, which gives the new one
-- up
abbrev pub committed : {D : Type 0} → Vols D → Mover → Vols D
committed vols m = given_back vols m.from

abbrev pub undone : {D : Type 0} → Vols D → Mover → Vols D
undone vols m = given_back vols m.to

-- What holds from the beginning of a move to its end: the segment has both homes, on two volumes; their file maps name
-- the same pages; and the records that they name are in use, each named once.
pub record IsMoving {D : Type 0} (vols : Vols D) (m : Mover) : Type 0 where
  pub source : m.from.0 < length vols.drives
  pub target : m.to.0 < length vols.drives
  pub other : m.from.0 ≢ m.to.0
  pub old_used : uid_at vols m.from ≡ Some m.uid
  pub new_used : uid_at vols m.to ≡ Some m.uid
  pub same : (p : ℕ) → is_some (place_at vols m.to p) ≡ is_some (place_at vols m.from p)
  pub old_kept : AreKept (records_at vols m.from.0) (map_at vols m.from)
  pub new_kept : AreKept (records_at vols m.to.0) (map_at vols m.to)

-- the drives, the records of other volumes and all entries but that of a home are as before
pub record KeepsOthersThan {D : Type 0} (old new : Vols D) (home : ℕ × ℕ) : Type 0 where
  pub drives : new.drives ≡ old.drives
  pub records : (v : ℕ) → v ≢ home.0 → records_at new v ≡ records_at old v
  pub entries : (v e : ℕ) → (v ≡ home.0 → e ≢ home.1) → entry_at (vtoc_at new v) e ≡ entry_at (vtoc_at old v) e
