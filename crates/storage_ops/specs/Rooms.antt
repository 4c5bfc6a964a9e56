-- Which volume has room for so many pages, and when a segment must move there (Organick 1972).
use Rattle.std.specs.Prelude.{ℕ, ◌-◌, Bool, not, ◌&&◌, ◌==◌, nat_lt, if◌then◌else◌, is_some, count_by, length, Option, None}
use Rattle.accounts.specs.Maps.{count_of}
use Rattle.tree_model.specs.Tree.{volume_in}
use Rattle.flat_model.specs.Rooms.{first_below}
use Rattle.volumes.specs.Volumes.{Vols, records_at, used_at, vtoc_at}
use Rattle.page_control.specs.Counts.{is_full}
use Rattle.storage_ops.specs.Shown.{Storage}

-- a volume other than a segment's own has more free records than the segment has stored pages, and a free VTOC entry
abbrev pub is_roomy : {D : Type 0} → Vols D → ℕ → ℕ → ℕ → Bool
is_roomy vols own pages volume = not (volume == own)
    && (nat_lt pages (length (records_at vols volume) - used_at vols volume)
    && nat_lt (count_by is_some (vtoc_at vols volume)) (length (vtoc_at vols volume)))

-- the first volume, in their order, that has room for so many pages of a segment of volume `own`
abbrev pub first_roomy : {D : Type 0} → Vols D → ℕ → ℕ → Option ℕ
first_roomy vols own pages = first_below (is_roomy vols own pages) (length vols.drives)

-- that volume for the stored pages of a segment
abbrev pub room_of : {D : Type 0} → Storage D → ℕ → Option ℕ
room_of t uid = first_roomy t.segs.pages.volumes (volume_in t.accounts.nodes uid) (count_of t.accounts uid)

-- the volume that a segment must move to before a page more of it can be stored: none where a record of its own volume
-- is free, or no other has room
abbrev pub move_target : {D : Type 0} → Storage D → ℕ → Option ℕ
move_target t uid =
    if is_full t.segs.pages.volumes.records (volume_in t.accounts.nodes uid) then room_of t uid else None
