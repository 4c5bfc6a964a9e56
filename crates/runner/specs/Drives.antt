-- The drives of a script's volumes, and what a book tells of them (own).
use Rattle.std.specs.Prelude.{◌≡◌, ◌≤◌, ◌+◌, ℕ, Bool, false, true, ◌==◌, if◌then◌else◌, List, [], ◌∷◌, filter, map, length, count_by, slice_get, sum_by, Option, Some}
use Rattle.std.specs.List.{list_any}
use Rattle.volumes.specs.CoreDrive.{faults_of}
use Rattle.volumes.specs.FailLine.{named_calls}
use Rattle.volumes.specs.declared.drive.FailLine.{FailLine}
use Rattle.script.specs.Plans.{Plan}
use Rattle.script.specs.declared.plan.Bulk.{Bulk}
use Rattle.script.specs.declared.plan.Fail.{Fail}
use Rattle.book.specs.declared.entries.Entry.{Entry}
use Rattle.flat_model.specs.Store.{records_of}
use Rattle.bulk_store.specs.AnyDrive.{any_pages, any_places, disk_of}
use Rattle.bulk_store.specs.declared.any_drive.AnyDrive.{AnyDrive}
use Rattle.machine_model.specs.Keeps.{is_fault}
use Rattle.machine.specs.Sizes.{HaveSizes}

-- a line of a script that names a failing call, as a drive's
abbrev pub line_of : Fail → FailLine
line_of f = record { write = f.write; number = f.number; onward = f.onward }

abbrev pub is_on : ℕ → Fail → Bool
is_on volume f = f.volume == volume

-- the lines of a volume's drive, in the order of the script
abbrev pub lines_in : List Fail → ℕ → List FailLine
lines_in fails volume = map line_of (filter (is_on volume) fails)

-- how many pages the fast store of a volume holds, 0 where there is none
abbrev pub places_in : List Bulk → ℕ → ℕ
places_in [] volume = 0
places_in (b ∷ bulks) volume = if b.volume == volume then b.places else places_in bulks volume

-- the lines that name a drive's failing calls, and how many of its calls failed so far
abbrev pub plan_of : AnyDrive → Option (List FailLine)
plan_of d = Some (disk_of d).fails

abbrev pub faults_in : AnyDrive → ℕ
faults_in d = faults_of (disk_of d)

-- each drive fails as the `fail` lines of its volume say, and a fast store stands before it as its `bulk` line says
pub record AreTold (p : Plan) (drives : List AnyDrive) : Type 0 where
  pub count : length drives ≡ length p.volumes
  pub plans : (v : ℕ) (d : AnyDrive) → slice_get drives v ≡ Some d → (disk_of d).fails ≡ lines_in p.fails v
  pub places : (v : ℕ) (d : AnyDrive) → slice_get drives v ≡ Some d → any_places d ≡ places_in p.bulks v

-- the drives of a script's volumes, in their order: so, and each of the size of its volume
pub record AreDrivesOf (p : Plan) (drives : List AnyDrive) : Type 0 where
  pub told : AreTold p drives
  pub sizes : HaveSizes any_pages drives p

-- What a book tells of the drives' failures. There are exactly as many `fault` entries as calls failed; those that
-- failed are the calls so far that the `fail` lines of their volume name; and where no `fail` line goes on, they are at
-- most as many as there are `fail` lines. So a script without `fail` lines has a book without `fault` entries.
pub record TellsFaults (p : Plan) (entries : List Entry) (drives : List AnyDrive) : Type 0 where
  pub all : count_by is_fault entries ≡ sum_by faults_in drives
  pub named : (v : ℕ) (d : AnyDrive) → slice_get drives v ≡ Some d
      → faults_in d ≡ named_calls (lines_in p.fails v) false (disk_of d).reads
      + named_calls (lines_in p.fails v) true (disk_of d).writes
  pub few : list_any (λ f. f.onward) p.fails ≡ false → count_by is_fault entries ≤ length p.fails

-- a drive as it is made for volume v: of its size, told so, and none of its calls has failed
pub record IsFresh (p : Plan) (v : ℕ) (d : AnyDrive) : Type 0 where
  pub size : length (any_pages d) ≡ records_of p v
  pub faults : faults_in d ≡ 0
  pub plan : (disk_of d).fails ≡ lines_in p.fails v
  pub places : any_places d ≡ places_in p.bulks v
