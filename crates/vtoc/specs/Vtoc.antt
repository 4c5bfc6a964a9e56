use Rattle.std.specs.Prelude.{◌≡◌, ℕ, ◌<◌, false, List, length, Option, None, Some, slice_index_or, slice_set, is_none, position}
use Rattle.vtoc.specs.FileMap.{no_records}

-- a used entry: the segment or directory that it describes, and for each of its 256 pages the record that it is on
-- (Organick 1972)
pub record Entry : Type 0 where
  pub uid : ℕ
  pub records : List (Option ℕ)

-- the entry at place e, None where it is free or past the table's end
abbrev pub entry_at : List (Option Entry) → ℕ → Option Entry
entry_at table e = slice_index_or table e None

-- the uid of an entry, None where it is free
abbrev pub uid_of : Option Entry → Option ℕ
uid_of None = None
uid_of (Some entry) = Some entry.uid

-- the file map of an entry; a free one names no record
abbrev pub records_in : Option Entry → List (Option ℕ)
records_in None = no_records
records_in (Some entry) = entry.records

-- the record of page p by the file map of entry e
abbrev pub record_at : List (Option Entry) → ℕ → ℕ → Option ℕ
record_at table e p = slice_index_or (records_in (entry_at table e)) p None

-- an entry as it is allocated, with an empty file map
abbrev pub fresh_entry : ℕ → Option Entry
fresh_entry uid = Some (record { uid = uid; records = no_records })

-- an entry after its file map names record r for page p, or none
abbrev pub with_record : Option Entry → ℕ → Option ℕ → Option Entry
with_record None p r = None
with_record (Some entry) p r = Some (record entry { records = slice_set entry.records p r })

-- the least place that is free, None where all are used (own)
abbrev pub least_free_entry : List (Option Entry) → Option ℕ
least_free_entry table = position is_none table

-- e is the least free place: it is free, and every place before it is used (own)
pub record IsLeastFreeEntry (table : List (Option Entry)) (e : ℕ) : Type 0 where
  pub within : e < length table
  pub free : entry_at table e ≡ None
  pub before : (k : ℕ) → k < e → is_none (entry_at table k) ≡ false

-- each file map has 256 places
pub record HasFullMaps (table : List (Option Entry)) : Type 0 where
  pub places : (e : ℕ) → length (records_in (entry_at table e)) ≡ 256

-- the file map of entry e names no record for any page
pub record NamesNoRecord (table : List (Option Entry)) (e : ℕ) : Type 0 where
  pub none : (p : ℕ) → record_at table e p ≡ None
