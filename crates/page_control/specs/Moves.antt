-- A segment that gets another home (own).
use Rattle.std.specs.Prelude.{◌≡◌, ◌<◌, ℕ, ◌==◌, ◌&&◌, ◌||◌, nat_lt, List, [], ◌∷◌, Option, None, Some, length, map, is_some, slice_index_or}
use Rattle.core_map.specs.declared.Frame.{Frame}
use Rattle.core_map.specs.declared.Frame.TheVariants.{Free, Started, Bound}
use Rattle.core_map.specs.CoreMap.{Core}
use Rattle.page_table.specs.declared.Ptw.{Ptw}
use Rattle.page_table.specs.declared.Ptw.TheVariants.{Null, Out, Here, Leaving}
use Rattle.page_table.specs.PageTable.{ptw_at}
use Rattle.volumes.specs.Volumes.{with_page}
use Rattle.page_control.specs.declared.Home.{Home}
use Rattle.page_control.specs.Plain.{Plain, disk_of, filed}
use Rattle.page_control.specs.Tied.{AreFiled, uid_at, map_at, has_record}
use Rattle.page_control.specs.Picture.{words_out}

-- A home for the segment of a page table: a used VTOC entry of the segment, on a volume that is there, whose file map
-- names a record for exactly the pages that have one.
pub record IsHomeFor (s : Plain) (uid : ℕ) (home : Home) (table : List Ptw) : Type 0 where
  pub volume : home.volume < length s.disks
  pub used : uid_at s.vtocs home ≡ Some uid
  pub stored : (p : ℕ) → is_some (slice_index_or (map_at s.vtocs home) p None) ≡ has_record (ptw_at table p)

-- Each page before page n that is on its record alone has the same words at both homes.
pub record IsCopied (s : Plain) (table : List Ptw) (from to : Home) (n : ℕ) : Type 0 where
  pub words : (p r : ℕ) → p < n → ptw_at table p ≡ Out r → words_out s to p ≡ words_out s from p

-- What the volumes have of a home stays: its entry, its file map, and the words of the records that this names. The
-- records in use are those that file maps name.
pub record KeepsHome (old new : Plain) (home : Home) : Type 0 where
  pub uid : uid_at new.vtocs home ≡ uid_at old.vtocs home
  pub map : map_at new.vtocs home ≡ map_at old.vtocs home
  pub words : (p : ℕ) → words_out new home p ≡ words_out old home p
  pub volumes : length new.disks ≡ length old.disks
  pub records : AreFiled new.records new.vtocs

-- record r of volume v has these words
abbrev pub written : Plain → ℕ → ℕ → List ℕ → Plain
written s v r words = record s { disks = with_page s.disks v r words }

-- Page p at a home, which is on record r there, has got these words. The records in use are those that file maps name.
pub record IsWrittenAt (old new : Plain) (home : Home) (p r : ℕ) (words : List ℕ) : Type 0 where
  pub effect : new ≡ written old home.volume r words
  pub its : filed old home p ≡ Some r
  pub volume : home.volume < length old.disks
  pub within : r < length (disk_of old home.volume)
  pub records : AreFiled old.records old.vtocs

-- the word of a page for which another file map names this record, or none: a page that is on its record alone is on
-- that one
abbrev pub rehomed_word : Ptw → Option ℕ → Ptw
rehomed_word Null place = Null
rehomed_word (Out r) None = Out r
rehomed_word (Out r) (Some q) = Out q
rehomed_word (Here f) place = Here f
rehomed_word (Leaving f) place = Leaving f

-- the page table whose words go by another file map
unfoldable pub rehomed : List Ptw → List (Option ℕ) → List Ptw
rehomed [] places = []
rehomed (word ∷ words) [] = rehomed_word word None ∷ rehomed words []
rehomed (word ∷ words) (place ∷ places) = rehomed_word word place ∷ rehomed words places

-- a frame whose modified mark is on if it is bound to a page of segment uid, and else as before
abbrev pub modified_of : ℕ → Frame → Frame
modified_of uid Free = Free
modified_of uid (Started u p) = Started u p
modified_of uid (Bound u p used modified) = Bound u p used (modified || u == uid)

-- the same if it is bound to one of the pages before page n
abbrev pub modified_before : ℕ → ℕ → Frame → Frame
modified_before uid n Free = Free
modified_before uid n (Started u p) = Started u p
modified_before uid n (Bound u p used modified) = Bound u p used (modified || u == uid && nat_lt p n)

-- the modified mark of each frame of segment uid is on
abbrev pub all_modified : Core → ℕ → Core
all_modified core uid = record core { frames = map (modified_of uid) core.frames }

-- the modified mark of each frame that has one of its pages before page n is on
abbrev pub part_modified : Core → ℕ → ℕ → Core
part_modified core uid n = record core { frames = map (modified_before uid n) core.frames }
