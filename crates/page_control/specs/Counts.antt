-- How much of each volume is in use: records and VTOC entries (Organick 1972).
use Rattle.std.specs.Prelude.{◌≡◌, ℕ, ◌+◌, ◌-◌, ◌==◌, if◌then◌else◌, Bool, List, Option, length, is_some, count_by, map}
use Rattle.vtoc.specs.Vtoc.{Entry}
use Rattle.page_control.specs.declared.Left.{Left}
use Rattle.page_control.specs.declared.Left.TheVariants.{Released, Kept}
use Rattle.page_control.specs.Plain.{Plain}
use Rattle.page_control.specs.Tied.{flags_in, vtoc_in, map_at}
use Rattle.page_control.specs.declared.Home.{Home}

-- how many records of volume v are in use, and how many it has
abbrev pub taken : List (List Bool) → ℕ → ℕ
taken records v = count_by (λ flag. flag) (flags_in records v)

abbrev pub size : List (List Bool) → ℕ → ℕ
size records v = length (flags_in records v)

abbrev pub is_full : List (List Bool) → ℕ → Bool
is_full records v = taken records v == size records v

-- how many entries of volume v are used, and how many it has
abbrev pub used : List (List (Option Entry)) → ℕ → ℕ
used vtocs v = count_by is_some (vtoc_in vtocs v)

abbrev pub entries : List (List (Option Entry)) → ℕ → ℕ
entries vtocs v = length (vtoc_in vtocs v)

-- how many records of volume v the file map at a home names
unfoldable pub named_on : List (List (Option Entry)) → Home → ℕ → ℕ
named_on vtocs home v = if v == home.volume then count_by is_some (map_at vtocs home) else 0

-- a count for each volume, after one more of volume v, and after one less
unfoldable pub one_more : (ℕ → ℕ) → ℕ → ℕ → ℕ
one_more count v w = if w == v then count w + 1 else count w

unfoldable pub one_less : (ℕ → ℕ) → ℕ → ℕ → ℕ
one_less count v w = if w == v then count w - 1 else count w

-- the records in use after a page of volume v has left its frame
abbrev pub taken_after : (ℕ → ℕ) → ℕ → Left → ℕ → ℕ
taken_after count v Released = one_less count v
taken_after count v Kept = count

-- No volume has more or fewer entries in use, entries, records or pages, and the frames are as many as before.
pub record KeepsCounts (old new : Plain) : Type 0 where
  pub used : map (count_by is_some) new.vtocs ≡ map (count_by is_some) old.vtocs
  pub places : map (length {A = Option Entry}) new.vtocs ≡ map length old.vtocs
  pub flags : map (length {A = Bool}) new.records ≡ map length old.records
  pub volumes : length new.disks ≡ length old.disks
  pub frames : length new.core.frames ≡ length old.core.frames
