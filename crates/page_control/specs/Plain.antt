-- What page control keeps, in lists (Bensoussan, Clingen and Daley 1972).
use Rattle.std.specs.Prelude.{ℕ, List, [], Bool, Option, None, Some, map, slice_index_or}
use Rattle.core_map.specs.CoreMap.{Core, frame_at, bound_page}
use Rattle.core_map.specs.declared.Frame.{Frame}
use Rattle.core_map.specs.declared.Frame.TheVariants.{Free, Started, Bound}
use Rattle.vtoc.specs.Vtoc.{Entry, entry_at, record_at, records_in}
use Rattle.volumes.specs.Volumes.{Vols}
use Rattle.page_control.specs.declared.Home.{Home}

-- the core map, the words of each frame, and the volumes with drives of type D
pub record Paging (D : Type 0) : Type 0 where
  pub core : Core
  pub frames : List (List ℕ)
  pub volumes : Vols D

-- the same after the volumes have changed
abbrev pub with_volumes : {D : Type 0} → Paging D → Vols D → Paging D
with_volumes s volumes = record s { volumes = volumes }

-- the same with the pages of each drive in place of the drive
pub record Plain : Type 0 where
  pub core : Core
  pub frames : List (List ℕ)
  pub disks : List (List (List ℕ))
  pub records : List (List Bool)
  pub vtocs : List (List (Option Entry))

-- where `pages` says what a drive holds
abbrev pub plain : {D : Type 0} → (D → List (List ℕ)) → Paging D → Plain
plain pages s = record {
  core = s.core;
  frames = s.frames;
  disks = map pages s.volumes.drives;
  records = s.volumes.records;
  vtocs = s.volumes.vtocs;
}

-- frame f of the core map, and the words in it
abbrev pub frame_in : Plain → ℕ → Frame
frame_in s f = frame_at s.core f

abbrev pub words_in : Plain → ℕ → List ℕ
words_in s f = slice_index_or s.frames f []

-- what each frame is bound to, as uid and page number
abbrev pub bindings : Core → List (Option (ℕ × ℕ))
bindings core = map bound_page core.frames

abbrev pub binding_at : List (Option (ℕ × ℕ)) → ℕ → Option (ℕ × ℕ)
binding_at bound f = slice_index_or bound f None

-- the page number that a frame is bound to, and 0 where it isn't bound
abbrev pub number_in : Frame → ℕ
number_in Free = 0
number_in (Started uid page) = 0
number_in (Bound uid page used modified) = page

-- the pages of volume v, its flags of records in use and its VTOC
abbrev pub disk_of : Plain → ℕ → List (List ℕ)
disk_of s v = slice_index_or s.disks v []

abbrev pub flags_of : Plain → ℕ → List Bool
flags_of s v = slice_index_or s.records v []

abbrev pub vtoc_of : Plain → ℕ → List (Option Entry)
vtoc_of s v = slice_index_or s.vtocs v []

-- the words of record r of volume v
abbrev pub words_on : Plain → ℕ → ℕ → List ℕ
words_on s v r = slice_index_or (disk_of s v) r []

-- the VTOC entry at a home, the uid that it has (0 where it is free), and the record that its file map names for page p
abbrev pub entry_of : Plain → Home → Option Entry
entry_of s home = entry_at (vtoc_of s home.volume) home.entry

abbrev pub uid_or_zero : Option Entry → ℕ
uid_or_zero None = 0
uid_or_zero (Some entry) = entry.uid

abbrev pub uid_of_home : Plain → Home → ℕ
uid_of_home s home = uid_or_zero (entry_of s home)

abbrev pub file_map_of : Plain → Home → List (Option ℕ)
file_map_of s home = records_in (entry_of s home)

abbrev pub filed : Plain → Home → ℕ → Option ℕ
filed s home p = record_at (vtoc_of s home.volume) home.entry p

abbrev pub number_or_zero : Option ℕ → ℕ
number_or_zero None = 0
number_or_zero (Some r) = r

abbrev pub record_of : Plain → Home → ℕ → ℕ
record_of s home p = number_or_zero (filed s home p)
