-- The steps of which the calls are made, a page at a time (own).
use Rattle.std.specs.Prelude.{◌≡◌, ◌<◌, ◌≤◌, ◌+◌, ◌++◌, ℕ, true, false, Option, None, Some, length, count_by, is_some, IsSome, slice_set, take, drop}
use Rattle.vtoc.specs.Vtoc.{with_record, fresh_entry}
use Rattle.volumes.specs.Volumes.{Vols, records_at, used_at, vtoc_at, with_record_used, with_vtoc}
use Rattle.seg_mover.specs.Homes.{entry_of, map_at, place_at}
use Rattle.seg_mover.specs.Records.{AreKept, flags_taken, map_taken}
use Rattle.seg_mover.specs.Moves.{given_back}

-- the file map at a home names this record for page p, or none
abbrev pub with_place : {D : Type 0} → Vols D → ℕ × ℕ → ℕ → Option ℕ → Vols D
with_place vols home p place =
    with_vtoc vols home.0 (slice_set (vtoc_at vols home.0) home.1 (with_record (entry_of vols home) p place))

-- the least free record of the volume is that of page p at a home; nothing changes where none is free
abbrev pub page_stored : {D : Type 0} → Vols D → ℕ × ℕ → ℕ → Option ℕ → Vols D
page_stored vols home p None = vols
page_stored vols home p (Some r) = with_place (with_record_used vols home.0 r true) home p (Some r)

-- record r, which is that of page p at a home, is given back; nothing changes where the page has none
abbrev pub page_given : {D : Type 0} → Vols D → ℕ × ℕ → ℕ → Option ℕ → Vols D
page_given vols home p None = vols
page_given vols home p (Some r) = with_place (with_record_used vols home.0 r false) home p None

-- an entry is the segment's, and its file map names no record
abbrev pub entry_taken : {D : Type 0} → Vols D → ℕ × ℕ → ℕ → Vols D
entry_taken vols home uid = with_vtoc vols home.0 (slice_set (vtoc_at vols home.0) home.1 (fresh_entry uid))

-- The pages before page n have their records at `to`, since `old`.
pub record IsPartBegun {D : Type 0} (old now : Vols D) (uid : ℕ) (from to : ℕ × ℕ) (n : ℕ) : Type 0 where
  pub drives : now.drives ≡ old.drives
  pub records : now.records ≡ slice_set old.records to.0 (records_at now to.0)
  pub vtocs : now.vtocs ≡ slice_set old.vtocs to.0 (slice_set (vtoc_at old to.0) to.1
      (Some (record { uid = uid; records = map_at now to })))
  pub flags : flags_taken (records_at now to.0) (drop n (map_at old from)) ≡ flags_taken (records_at old to.0)
      (map_at old from)
  pub places : take n (map_at now to) ++ map_taken (records_at now to.0) (drop n (map_at old from)) ≡ map_taken
      (records_at old to.0) (map_at old from)
  pub blank : (p : ℕ) → n ≤ p → place_at now to p ≡ None
  pub room : used_at now to.0 + count_by is_some (drop n (map_at old from)) ≤ length (records_at now to.0)
  pub size : length (records_at now to.0) ≡ length (records_at old to.0)
  pub long : length (map_at now to) ≡ 256

-- The pages before page n have given their records at a home back, since `old`.
pub record IsPartGiven {D : Type 0} (old now : Vols D) (home : ℕ × ℕ) (n : ℕ) : Type 0 where
  pub used : IsSome (entry_of now home)
  pub kept : AreKept (records_at now home.0) (map_at now home)
  pub rest : given_back now home ≡ given_back old home
  pub gone : (p : ℕ) → p < n → place_at now home p ≡ None
