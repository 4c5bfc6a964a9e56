-- Tables of tables: what stands at a volume and a place there, once one is changed.
use Rattle.storage_ops.proofs.Prelude.{◌≤◌, ◌≡◌, ℕ, ◌<◌, List, [], length, map, Option, Some, None, ap, arith, inl, inr, cases_lt, get_or_past, length-map, entry_at, HasParts, Vols, Home, uid_at, vtoc_in, VtocEntry as Entry, Vtoc_uid_of as uid_of}

-- a home that is used is on a volume that is there
pub homed_volume : (vtocs : List (List (Option Entry))) (home : Home) {u : ℕ} → uid_at vtocs home ≡ Some u
    → home.volume < length vtocs
homed_volume vtocs home e = elim (cases_lt home.volume (length vtocs)) [
  | inl lt ↦ lt
  | inr past ↦ cc (ap (λ (t : List (Option Entry)). uid_of (entry_at t home.entry))
      (get_or_past vtocs home.volume [] past))
]

-- and in a place of its table
pub homed_entry : (vtocs : List (List (Option Entry))) (home : Home) {u : ℕ} → uid_at vtocs home ≡ Some u
    → home.entry < length (vtoc_in vtocs home.volume)
homed_entry vtocs home e = elim (cases_lt home.entry (length (vtoc_in vtocs home.volume))) [
  | inl lt ↦ lt
  | inr past ↦ cc (ap uid_of (get_or_past (vtoc_in vtocs home.volume) home.entry None past))
]

-- there are as many VTOCs as drives
pub all_drives : {D : Type 0} (pages : D → List (List ℕ)) (v : Vols D)
    → HasParts (map pages v.drives) v.records v.vtocs → length v.vtocs ≤ length v.drives
all_drives pages v parts = omega (arith, length-map v.drives pages)
