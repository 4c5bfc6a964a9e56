-- What is true of each segment between calls, and stays true (Bensoussan, Clingen and Daley 1972).
use Rattle.std.specs.Prelude.{◌≡◌, ◌≢◌, ◌<◌, ◌≤◌, ℕ, true, false, List, Some, length, replicate}
use Rattle.core_map.specs.CoreMap.{is_modified}
use Rattle.mword.specs.Words.{AreZero}
use Rattle.page_table.specs.declared.Ptw.{Ptw}
use Rattle.page_table.specs.declared.Ptw.TheVariants.{Null, Out}
use Rattle.page_control.specs.declared.Home.{Home}
use Rattle.page_control.specs.Plain.{Plain, bindings, binding_at, frame_in, words_in, words_on}
use Rattle.page_control.specs.Tied.{IsTableOf, IsMapOf, AreFiled, IsInFrame, IsBoundTo, uid_at, map_at, frame_of, has_record, is_out}
use Rattle.page_control.specs.Picture.{words_at, words_out, is_stored}
use Rattle.page_control.specs.Counts.{taken}

-- What a call that concerns a segment asks and keeps.
pub record IsTied (s : Plain) (uid : ℕ) (home : Home) (words : List Ptw) : Type 0 where
  -- the home is a used VTOC entry of the segment, on a volume that is there
  pub volume : home.volume < length s.disks
  pub used : uid_at s.vtocs home ≡ Some uid
  -- the words are its page table, of 256 at most, and agree with the frames and with the file map
  pub pages : length words ≤ 256
  pub table : IsTableOf (bindings s.core) uid words
  pub map : IsMapOf (map_at s.vtocs home) words
  -- the records in use are those that file maps name
  pub records : AreFiled s.records s.vtocs
  -- a frame of the segment whose modified mark is off has the words of its page's record
  pub clean : (f p : ℕ) → is_modified (frame_in s f) ≡ false → binding_at (bindings s.core) f ≡ Some (uid, p)
      → words_in s f ≡ words_out s home p
  -- a stored page that is all zeros is in a frame
  pub zeros : (p : ℕ) → is_stored s home p ≡ true → AreZero (words_at s uid home p) → IsInFrame (bindings s.core) uid p

-- What the word of a page tells of it, by what is true of its segment.
pub record IsSeen (s : Plain) (uid : ℕ) (home : Home) (p : ℕ) (word : Ptw) : Type 0 where
  -- a page that has a record is stored, and one that has none is zeros
  pub stored : is_stored s home p ≡ has_record word
  pub null : word ≡ Null → words_at s uid home p ≡ replicate 1024 0
  pub taken : has_record word ≡ true → 0 < taken s.records home.volume
  -- one that is on its record alone has the words of that, and isn't all zeros
  pub out : (r : ℕ) → word ≡ Out r → words_at s uid home p ≡ words_on s home.volume r
  pub full : is_out word ≡ true → AreZero (words_at s uid home p) → ⊥
  -- and one that is in a frame has the words there
  pub bound : (f : ℕ) → frame_of word ≡ Some f → binding_at (bindings s.core) f ≡ Some (uid, p)
  pub frame : (f : ℕ) → frame_of word ≡ Some f → IsBoundTo (frame_in s f) uid p
  pub words : (f : ℕ) → frame_of word ≡ Some f → words_at s uid home p ≡ words_in s f

-- What a call that concerns segment uid at a home keeps: every entry is used for the segment that it was used for;
-- every other file map is as before; and the page table of every other segment is still its table, with all that is
-- true of it.
pub record KeepsOthers (old new : Plain) (uid : ℕ) (home : Home) : Type 0 where
  pub uids : (other : Home) → uid_at new.vtocs other ≡ uid_at old.vtocs other
  pub maps : (other : Home) → other ≢ home → map_at new.vtocs other ≡ map_at old.vtocs other
  pub tables : (segment : ℕ) (table : List Ptw) → segment ≢ uid → IsTableOf (bindings old.core) segment table
      → IsTableOf (bindings new.core) segment table
  pub ties : (segment : ℕ) (other : Home) (table : List Ptw) → segment ≢ uid → IsTied old segment other table
      → IsTied new segment other table

-- What is true of each segment stays true.
pub record KeepsTies (old new : Plain) : Type 0 where
  pub ties : (uid : ℕ) (home : Home) (words : List Ptw) → IsTied old uid home words → IsTied new uid home words
