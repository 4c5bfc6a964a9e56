-- What ties page tables, homes and frames together (Bensoussan, Clingen and Daley 1972).
use Rattle.std.specs.Prelude.{◌≡◌, ◌≢◌, ◌≤◌, ℕ, Bool, true, false, List, [], Option, None, Some, is_some, length, slice_index_or}
use Rattle.core_map.specs.CoreMap.{Core, frame_at, is_bound}
use Rattle.core_map.specs.declared.Frame.{Frame}
use Rattle.core_map.specs.declared.Frame.TheVariants.{Free, Started, Bound}
use Rattle.page_table.specs.declared.Ptw.{Ptw}
use Rattle.page_table.specs.declared.Ptw.TheVariants.{Null, Out, Here, Leaving}
use Rattle.page_table.specs.PageTable.{ptw_at}
use Rattle.vtoc.specs.Vtoc.{Entry, record_at, records_in, uid_of, entry_at}
use Rattle.record_map.specs.Bitmap.{in_use}
use Rattle.page_control.specs.declared.Home.{Home}
use Rattle.page_control.specs.Plain.{binding_at, number_in}

-- the VTOC of volume v, and its flags of records in use
abbrev pub vtoc_in : List (List (Option Entry)) → ℕ → List (Option Entry)
vtoc_in vtocs v = slice_index_or vtocs v []

abbrev pub flags_in : List (List Bool) → ℕ → List Bool
flags_in records v = slice_index_or records v []

-- the frame that a word names
abbrev pub frame_of : Ptw → Option ℕ
frame_of Null = None
frame_of (Out r) = None
frame_of (Here f) = Some f
frame_of (Leaving f) = Some f

-- whether a word says that the page has a record
abbrev pub has_record : Ptw → Bool
has_record Null = false
has_record (Out r) = true
has_record (Here f) = true
has_record (Leaving f) = true

-- whether no reference goes through the word of a stored page: the page is on its record alone, or leaving
abbrev pub is_away : Ptw → Bool
is_away Null = false
is_away (Out r) = true
is_away (Here f) = false
is_away (Leaving f) = true

abbrev pub is_out : Ptw → Bool
is_out Null = false
is_out (Out r) = true
is_out (Here f) = false
is_out (Leaving f) = false

-- the uid that a frame is bound to, and 0 where it isn't bound
abbrev pub uid_in : Frame → ℕ
uid_in Free = 0
uid_in (Started uid page) = 0
uid_in (Bound uid page used modified) = uid

-- a frame is bound to page p of segment uid
pub record IsBoundTo (frame : Frame) (uid p : ℕ) : Type 0 where
  pub bound : is_bound frame ≡ true
  pub segment : uid_in frame ≡ uid
  pub page : number_in frame ≡ p

-- the table is that of segment uid: a frame is bound to a page of it exactly where the word of that page names the
-- frame
pub record IsTableOf (bound : List (Option (ℕ × ℕ))) (uid : ℕ) (table : List Ptw) : Type 0 where
  pub named : (f p : ℕ) → binding_at bound f ≡ Some (uid, p) → frame_of (ptw_at table p) ≡ Some f
  pub back : (f p : ℕ) → frame_of (ptw_at table p) ≡ Some f → binding_at bound f ≡ Some (uid, p)

-- a file map names a record for exactly the pages whose word isn't `Null`, and for a word `Out` the record that the
-- word names
pub record IsMapOf (places : List (Option ℕ)) (table : List Ptw) : Type 0 where
  pub stored : (p : ℕ) → is_some (slice_index_or places p None) ≡ has_record (ptw_at table p)
  pub out : (p r : ℕ) → ptw_at table p ≡ Out r → slice_index_or places p None ≡ Some r

-- a page table of no page: each of its words, 256 at most, is `Null`
pub record IsBlank (table : List Ptw) : Type 0 where
  pub pages : length table ≤ 256
  pub null : (p : ℕ) → ptw_at table p ≡ Null

-- the uid of the segment that a home is used for, and the file map there
abbrev pub uid_at : List (List (Option Entry)) → Home → Option ℕ
uid_at vtocs home = uid_of (entry_at (vtoc_in vtocs home.volume) home.entry)

abbrev pub map_at : List (List (Option Entry)) → Home → List (Option ℕ)
map_at vtocs home = records_in (entry_at (vtoc_in vtocs home.volume) home.entry)

-- some entry's file map names record r for some page
abbrev pub IsNamed : List (Option Entry) → ℕ → Type 0
IsNamed table r = (e p : ℕ) × (record_at table e p ≡ Some r)

-- the records in use are those that file maps name, and each is named once
pub record AreFiled (records : List (List Bool)) (vtocs : List (List (Option Entry))) : Type 0 where
  pub used : (v e p r : ℕ) → record_at (vtoc_in vtocs v) e p ≡ Some r → in_use (flags_in records v) r ≡ true
  pub once : (v e p g q r : ℕ) → record_at (vtoc_in vtocs v) e p ≡ Some r → record_at (vtoc_in vtocs v) g q ≡ Some r
      → (e ≡ g) × (p ≡ q)
  pub named : (v r : ℕ) → in_use (flags_in records v) r ≡ true → IsNamed (vtoc_in vtocs v) r

-- no frame is started for page p of segment uid
pub record IsNotStarted (core : Core) (uid p : ℕ) : Type 0 where
  pub none : (f : ℕ) → frame_at core f ≢ Started uid p

-- a frame is bound to a page that no other frame is bound to
pub record IsBoundOnce (bound : List (Option (ℕ × ℕ))) (f : ℕ) : Type 0 where
  pub only : (g : ℕ) → binding_at bound g ≡ binding_at bound f → g ≡ f

-- no frame is bound to a page of segment uid
pub record HasNoFrame (bound : List (Option (ℕ × ℕ))) (uid : ℕ) : Type 0 where
  pub none : (f p : ℕ) → binding_at bound f ≢ Some (uid, p)

-- some frame is bound to page p of segment uid
abbrev pub IsInFrame : List (Option (ℕ × ℕ)) → ℕ → ℕ → Type 0
IsInFrame bound uid p = (f : ℕ) × (binding_at bound f ≡ Some (uid, p))
