-- Which volume a segment moves to when its own has no free record (Organick 1972).
use Rattle.std.specs.Prelude.{ℕ, zero, suc, ◌-◌, Bool, not, ◌&&◌, ◌==◌, nat_lt, if◌then◌else◌, count_by, length, Option, Some, None}
use Rattle.script.specs.Plans.{Plan}
use Rattle.tree_model.specs.Tree.{entries_on, taken_on, volume_in}
use Rattle.flat_model.specs.Store.{Store, entries_of, records_of}

-- how many pages of a segment are stored
abbrev pub pages_stored : Store → ℕ → ℕ
pages_stored s uid = count_by (λ x. x.0 == uid) s.stored

-- A volume has room for a segment where it isn't the segment's own, its free records are more than the stored pages of
-- the segment, and it has a free VTOC entry.
abbrev pub has_room : Plan → Store → ℕ → ℕ → Bool
has_room p s uid volume = not (volume == volume_in s.nodes uid)
    && (nat_lt (pages_stored s uid) (records_of p volume - taken_on s.nodes s.stored volume)
    && nat_lt (entries_on s.nodes volume) (entries_of p volume))

-- the least of so many numbers, from 0 on, that passes a test
abbrev pub first_below : (ℕ → Bool) → ℕ → Option ℕ
first_below test zero = None
first_below test (suc n) = first_or (first_below test n) (if test n then Some n else None)
  where
    first_or : Option ℕ → Option ℕ → Option ℕ
    first_or None next = next
    first_or (Some v) next = Some v

-- the first volume, in the order of the script, that has room for a segment
abbrev pub room_for : Plan → Store → ℕ → Option ℕ
room_for p s uid = first_below (has_room p s uid) (length p.volumes)
