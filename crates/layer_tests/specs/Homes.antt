-- A home that the tests of moves make and ask.
use Rattle.std.specs.Prelude.{ℕ, ◌<◌, length, IsSome}
use Rattle.volumes.specs.Volumes.{Vols, records_at}
use Rattle.seg_mover.specs.Homes.{entry_of, map_at}
use Rattle.seg_mover.specs.Records.{AreKept}

-- the entry is used, and the records that its file map names are in use, each named once
pub record IsHome {D : Type 0} (vols : Vols D) (home : ℕ × ℕ) : Type 0 where
  pub volume : home.0 < length vols.drives
  pub used : IsSome (entry_of vols home)
  pub kept : AreKept (records_at vols home.0) (map_at vols home)
