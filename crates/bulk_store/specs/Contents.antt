-- What a bulk store consists of: the pages of its two drives and the list of what is held (own).
use Rattle.std.specs.Prelude.{◌≡◌, ◌<◌, ◌≤◌, ◌^◌, ◌⊎◌, ℕ, Bool, List, [], false, nat_lt, length, slice_index_or, slice_set, if◌then◌else◌, Option, None, Some, IsTrue, OnOk, OnErr, Result}
use Rattle.site_io.specs.Faults.{Rose}
use Rattle.site_io.specs.declared.stream.Failed.{Failed}
use Rattle.volumes.specs.declared.drive.FailLine.{FailLine}
use Rattle.volumes.specs.FailLine.{HasFewFaults, IsOneMore}
use Rattle.volumes.specs.FullPages.{HaveFullPages}
use Rattle.bulk_store.specs.declared.parts.Parts.{Parts}
use Rattle.bulk_store.specs.Held.{place_of, oldest_of, is_fast_write}
use Rattle.bulk_store.specs.Index.{Holdings, IsIndexed, with_record, without_oldest}

-- the pages of both drives, and what is held
pub record Contents : Type 0 where
  pub fast : List (List ℕ)
  pub disk : List (List ℕ)
  pub table : Holdings

abbrev pub contents : {F D : Type 0} → (F → List (List ℕ)) → (D → List (List ℕ)) → Parts F D → Contents
contents fast_pages disk_pages parts = record {
  fast = fast_pages parts.fast;
  disk = disk_pages parts.disk;
  table =
      parts.table;
}

-- there is a place for each page of the fast store, at least one, and an index entry for each of the disk's
pub record IsStore (s : Contents) : Type 0 where
  pub index : IsIndexed s.table
  pub room : s.table.room ≡ length s.fast
  pub some : 0 < s.table.room
  pub small : s.table.room < 2 ^ 32
  pub records : length s.table.places ≡ length s.disk

-- the oldest is taken out, and the disk has its page
abbrev pub gave_up_oldest : Contents → Contents
gave_up_oldest s = record s {
  disk = slice_set s.disk (oldest_of s.table.held).number (slice_index_or s.fast (oldest_of s.table.held).place []);
  table = without_oldest s.table;
}

-- record r came in with this page
abbrev pub took_in : Contents → ℕ → List ℕ → Contents
took_in s r words = record s { fast = slice_set s.fast s.table.free words; table = with_record s.table r }

-- whether a place is free
abbrev pub has_free_place : Contents → Bool
has_free_place s = nat_lt (length s.table.held) s.table.room

-- record r, which isn't held, was written: the oldest gave way where no place was free
abbrev pub wrote_new : Contents → ℕ → List ℕ → Contents
wrote_new s r words = if has_free_place s then took_in s r words else took_in (gave_up_oldest s) r words

-- record r was written
abbrev pub wrote : Contents → ℕ → List ℕ → Contents
wrote s r words = wrote_at (place_of s.table.held r)
  where
    wrote_at : Option ℕ → Contents
    wrote_at (Some p) = record s { fast = slice_set s.fast p words }
    wrote_at None = wrote_new s r words

-- after a failed write of record r: all is as before, or the oldest gave way, where r isn't held and no place was free
abbrev pub AfterFailed : Contents → ℕ → Contents → Type 0
AfterFailed s r now = (now ≡ s) ⊎ ((is_fast_write s.table.room s.table.held r ≡ false) × (now ≡ gave_up_oldest s))

-- a drive goes on: its plan is as before, its count of faults didn't fall, and is few still where it was few, and its
-- pages have 1024 words still where they had
pub record GoesOn {X : Type 0} (pages : X → List (List ℕ)) (plan : X → Option (List FailLine)) (faults : X → ℕ)
    (old new : X) : Type 0 where
  pub same_plan : plan new ≡ plan old
  pub grows : faults old ≤ faults new
  pub few : HasFewFaults (plan old) (faults old) → HasFewFaults (plan new) (faults new)
  pub full : HaveFullPages (pages old) → HaveFullPages (pages new)

-- of the counts of two drives one is one more, since that drive failed, and the other is as before
abbrev pub CountsOne : ℕ → ℕ → ℕ → ℕ → Type 0
CountsOne fast fast' disk disk' =
    (IsOneMore fast fast' × Rose fast fast' × (disk' ≡ disk))
    ⊎ (IsOneMore disk disk' × Rose disk disk' × (fast' ≡ fast))

-- what a call leaves of the counts of two drives: as before where it was done, and else one of them one more
pub record CountsBoth {T E : Type 0} (fast fast' disk disk' : ℕ) (result : Result T E) : Type 0 where
  pub told : OnOk result ((fast' ≡ fast) × (disk' ≡ disk))
  pub once : OnErr result (CountsOne fast fast' disk disk')

-- besides what a write of record r stores: what a failed one leaves; both drives go on, and count just the call that
-- failed; and a write that needs the fast store alone leaves the disk as it is, and fails by the fast store
pub record HasWritten {F D : Type 0} (fast_pages : F → List (List ℕ)) (fast_plan : F → Option (List FailLine))
    (fast_faults : F → ℕ) (disk_pages : D → List (List ℕ)) (disk_plan : D → Option (List FailLine))
    (disk_faults : D → ℕ) (old new : Parts F D) (r : ℕ) (result : Result (Unit {0}) Failed) : Type 0 where
  pub err : OnErr result (AfterFailed (contents fast_pages disk_pages old) r (contents fast_pages disk_pages new))
  pub fast : GoesOn fast_pages fast_plan fast_faults old.fast new.fast
  pub disk : GoesOn disk_pages disk_plan disk_faults old.disk new.disk
  pub alone : IsTrue (is_fast_write old.table.room old.table.held r) → new.disk ≡ old.disk
  pub cause : IsTrue (is_fast_write old.table.room old.table.held r)
      → OnErr result (Rose (fast_faults old.fast) (fast_faults new.fast))
  pub rose : OnErr result (Rose (fast_faults old.fast) (fast_faults new.fast)
      ⊎ Rose (disk_faults old.disk) (disk_faults new.disk))
  pub counts : CountsBoth (fast_faults old.fast) (fast_faults new.fast) (disk_faults old.disk) (disk_faults new.disk)
      result
