use Rattle.std.specs.Prelude.{◌≡◌, ◌≢◌, ◌<◌, ◌^◌, ℕ, Bool, false, List, [], length, replicate, map, Option, None, slice_index_or, slice_set, slice_get, count_by, All}
use Rattle.vtoc.specs.Vtoc.{Entry}
use Rattle.volumes.specs.declared.Part.{Part}
use Rattle.volumes.specs.declared.drive.FailLine.{FailLine}
use Rattle.volumes.specs.FailLine.{HasFewFaults}
use Rattle.volumes.specs.FullPages.{HaveFullPages}

-- the volumes, each with its drive, the flags of its records in use and the entries of its VTOC (Organick 1972)
pub record Vols (D : Type 0) : Type 0 where
  pub drives : List D
  pub records : List (List Bool)
  pub vtocs : List (List (Option Entry))

-- the flags of the records of volume v
abbrev pub records_at : {D : Type 0} → Vols D → ℕ → List Bool
records_at vols v = slice_index_or vols.records v []

-- how many of them are in use
abbrev pub used_at : {D : Type 0} → Vols D → ℕ → ℕ
used_at vols v = count_by (λ flag. flag) (records_at vols v)

-- the entries of volume v
abbrev pub vtoc_at : {D : Type 0} → Vols D → ℕ → List (Option Entry)
vtoc_at vols v = slice_index_or vols.vtocs v []

-- the pages of volume v, where `pages` says what a drive holds
abbrev pub pages_at : {D : Type 0} → (D → List (List ℕ)) → Vols D → ℕ → List (List ℕ)
pages_at pages vols v = slice_index_or (map pages vols.drives) v []

-- the count of faults of the drive of volume v, where `faults` says it of a drive
abbrev pub faults_at : {D : Type 0} → (D → ℕ) → List D → ℕ → ℕ
faults_at faults drives v = slice_index_or (map faults drives) v 0

-- where the plan of a drive is told, its faults are few
abbrev pub HaveFewFaults : {D : Type 0} → (D → Option (List FailLine)) → (D → ℕ) → List D → Type 0
HaveFewFaults plan faults drives = All (λ d. HasFewFaults (plan d) (faults d)) drives

-- each page of each drive has 1024 words, where `pages` says what a drive holds
abbrev pub HaveFull : {D : Type 0} → (D → List (List ℕ)) → List D → Type 0
HaveFull pages drives = All (λ d. HaveFullPages (pages d)) drives

-- the volumes after the flags of volume v have changed
abbrev pub with_records : {D : Type 0} → Vols D → ℕ → List Bool → Vols D
with_records vols v flags = record vols { records = slice_set vols.records v flags }

-- the volumes after record r of volume v came into use, or went out of it
abbrev pub with_record_used : {D : Type 0} → Vols D → ℕ → ℕ → Bool → Vols D
with_record_used vols v r flag = with_records vols v (slice_set (records_at vols v) r flag)

-- the volumes after the VTOC of volume v has changed
abbrev pub with_vtoc : {D : Type 0} → Vols D → ℕ → List (Option Entry) → Vols D
with_vtoc vols v entries = record vols { vtocs = slice_set vols.vtocs v entries }

-- what the drives hold after record r of volume v has become these words
abbrev pub with_page : List (List (List ℕ)) → ℕ → ℕ → List ℕ → List (List (List ℕ))
with_page disks v r words = slice_set disks v (slice_set (slice_index_or disks v []) r words)

-- the volumes as they are made of their parts: no record and no entry is in use
abbrev pub made_of : {D : Type 0} → (D → List (List ℕ)) → List (Part D) → Vols D
made_of pages parts = record {
  drives = map (λ part. part.drive) parts;
  records = map (λ part. replicate (length (pages part.drive)) false) parts;
  vtocs = map (λ part. replicate part.entries None) parts;
}

-- there are fewer than 2 ^ 32 volumes, and each has as many flags as its drive has pages, and a VTOC
pub record HasParts (disks : List (List (List ℕ))) (records : List (List Bool)) (vtocs : List (List (Option Entry))) :
    Type 0 where
  pub few : length disks < 2 ^ 32
  pub sizes : map length records ≡ map length disks
  pub tables : length vtocs ≡ length disks

-- every drive but that of volume v is as before
pub record KeepsOthers {D : Type 0} (old new : List D) (v : ℕ) : Type 0 where
  pub same : (w : ℕ) → w ≢ v → slice_get new w ≡ slice_get old w

-- the records and the VTOCs are as before
pub record KeepsTables {D : Type 0} (old new : Vols D) : Type 0 where
  pub records : new.records ≡ old.records
  pub vtocs : new.vtocs ≡ old.vtocs
