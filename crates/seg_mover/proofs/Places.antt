-- One place of a list of lists, and one entry of the VTOCs.
pub use Rattle.seg_mover.proofs.Prelude.{AddsRecords, AreKept, Bool, CanBegin, Entry, HasFullMaps, IsLeastFreeEntry, IsPartBegun, IsPartGiven, IsSome, KeepsOthersThan, List, NamesNoRecord, None, Option, Some, Vols, [], ap, append-nil, append_assoc, arith, at_drop_more, begun, below_or_past, cases_eq, cond, count_by, count_freed, count_with, drop, drop_all, entry_for, entry_of, entry_taken, false, flag_within, flags_given, flags_taken, fresh_entry, get_or, get_or-set_other, get_or-set_same, get_or_past, given_back, inl, inr, is_some, least_free, length, length-set, length_no_records, list_within, map_at, map_some, map_taken, no_record, no_records, none_put, page_given, page_stored, place_at, put_here, put_other, put_put, records_at, records_in, refl, rules, set, set-get_or, set-set, some_number, some_within, subst, sum_by-cons, sym, take, take_all, take_more, take_more_set, true, uid_at, used_at, vtoc_at, with_place, with_record, with_record_used, with_taken, with_vtoc, ℕ, ◌++◌, ◌+◌, ◌<◌, ◌∙◌, ◌∷◌, ◌≡◌, ◌≢◌}

pub entry_within : {D : Type 0} (vols : Vols D) (home : ℕ × ℕ) → IsSome (entry_of vols home)
    → home.1 < length (vtoc_at vols home.0)
entry_within vols home used = some_within (vtoc_at vols home.0) home.1 used

pub vtoc_within : {D : Type 0} (vols : Vols D) (home : ℕ × ℕ) → IsSome (entry_of vols home) → home.0 < length vols.vtocs
vtoc_within vols home used = list_within vols.vtocs home.0 home.1 (entry_within vols home used)

-- an entry whose file map names another record for page p, or none
pub still_used : (entry : Option Entry) (p : ℕ) (place : Option ℕ) → IsSome entry → IsSome (with_record entry p place)
still_used None p place used = cc
still_used (Some entry) p place used = refl

pub map_with : (entry : Option Entry) (p : ℕ) (place : Option ℕ) → IsSome entry → records_in (with_record entry p place)
    ≡ set (records_in entry) p place
map_with None p place used = cc
map_with (Some entry) p place used = refl

pub entry_placed : {D : Type 0} (vols : Vols D) (home : ℕ × ℕ) (p : ℕ) (place : Option ℕ) → IsSome (entry_of vols home)
    → entry_of (with_place vols home p place) home ≡ with_record (entry_of vols home) p place
entry_placed vols home p place used =
    put_here vols.vtocs home.0 home.1 (with_record (entry_of vols home) p place) None (vtoc_within vols home used)
    (entry_within vols home used)

pub map_placed : {D : Type 0} (vols : Vols D) (home : ℕ × ℕ) (p : ℕ) (place : Option ℕ) → IsSome (entry_of vols home)
    → map_at (with_place vols home p place) home ≡ set (map_at vols home) p place
map_placed vols home p place used = cc (entry_placed vols home p place used, map_with (entry_of vols home) p place used)

-- a record whose flag is known stands on a volume that is there
pub records_within : {D : Type 0} (vols : Vols D) (v r : ℕ) → r < length (records_at vols v) → v < length vols.records
records_within vols v r lt = list_within vols.records v r lt

pub flags_used : {D : Type 0} (vols : Vols D) (v r : ℕ) (flag : Bool) → v < length vols.records
    → records_at (with_record_used vols v r flag) v ≡ set (records_at vols v) r flag
flags_used vols v r flag lt = get_or-set_same vols.records v (set (records_at vols v) r flag) [] lt

-- volumes are their parts
pub vols_same : {D : Type 0} (a b : Vols D) → a.drives ≡ b.drives → a.records ≡ b.records → a.vtocs ≡ b.vtocs → a ≡ b
vols_same a b ds rs vs = λ i. record { drives = ds i; records = rs i; vtocs = vs i }

pub used_some : {entry : Option Entry} {x : Entry} → entry ≡ Some x → IsSome entry
used_some is = ap is_some is
