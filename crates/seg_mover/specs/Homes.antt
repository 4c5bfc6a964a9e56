-- Where a segment is kept: a volume and an entry of its VTOC, as a pair (Organick 1972).
use Rattle.std.specs.Prelude.{ℕ, List, [], Option, None, Some, replicate, slice_index_or}
use Rattle.vtoc.specs.Vtoc.{Entry, entry_at, uid_of, records_in}
use Rattle.volumes.specs.Volumes.{Vols, vtoc_at, pages_at}

-- the VTOC entry at a home
abbrev pub entry_of : {D : Type 0} → Vols D → ℕ × ℕ → Option Entry
entry_of vols home = entry_at (vtoc_at vols home.0) home.1

-- the segment that it is used for, None where it is free
abbrev pub uid_at : {D : Type 0} → Vols D → ℕ × ℕ → Option ℕ
uid_at vols home = uid_of (entry_of vols home)

-- its file map
abbrev pub map_at : {D : Type 0} → Vols D → ℕ × ℕ → List (Option ℕ)
map_at vols home = records_in (entry_of vols home)

-- the record that it names for page p
abbrev pub place_at : {D : Type 0} → Vols D → ℕ × ℕ → ℕ → Option ℕ
place_at vols home p = slice_index_or (map_at vols home) p None

-- the words that a record has, and zeros where there is none (Organick 1972)
abbrev pub words_filed : List (List ℕ) → Option ℕ → List ℕ
words_filed disk None = replicate 1024 0
words_filed disk (Some r) = slice_index_or disk r []

-- the words of page p at a home, where `pages` says what a drive holds
abbrev pub words_of : {D : Type 0} → (D → List (List ℕ)) → Vols D → ℕ × ℕ → ℕ → List ℕ
words_of pages vols home p = words_filed (pages_at pages vols home.0) (place_at vols home p)
