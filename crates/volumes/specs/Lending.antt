use Rattle.std.specs.Prelude.{ℕ, List, Option}
use Rattle.std.specs.Borrow.{Lends, MutBor, Fml, RattleType}
use Rattle.vtoc.specs.Vtoc.{Entry}
use Rattle.vtoc.specs.contracts.Vtoc.{the_row as vtoc_row}
use Rattle.volumes.specs.declared.drive.Drive.{Ghosts}
use Rattle.volumes.specs.contracts.volumes.Volumes.{the_row}
use Rattle.volumes.specs.Volumes.{Vols, with_vtoc}

-- the VTOC of volume v is lent: the volumes end as they are now, but that this VTOC is the one that comes back
abbrev pub lends_vtoc : (R : RattleType) → Ghosts R.Denot → MutBor (Vols R.Denot) → ℕ → MutBor (List (Option Entry))
    → Fml
lends_vtoc R G vols v lent = Lends (the_row R G) vtoc_row vols lent (with_vtoc vols.now v)
