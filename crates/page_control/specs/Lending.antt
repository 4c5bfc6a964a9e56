-- What `volumes_mut` lends.
use Rattle.std.specs.Borrow.{Lends, MutBor, Fml, RattleType}
use Rattle.volumes.specs.declared.drive.Drive.{Ghosts}
use Rattle.volumes.specs.contracts.volumes.Volumes.{the_row as volumes_row}
use Rattle.volumes.specs.Volumes.{Vols}
use Rattle.page_control.specs.contracts.pages.Pages.{the_row}
use Rattle.page_control.specs.Plain.{Paging, with_volumes}

-- the volumes are lent: the pages end as they are now, but that these volumes are those that come back (own)
abbrev pub lends_volumes : (R : RattleType) → Ghosts R.Denot → MutBor (Paging R.Denot) → MutBor (Vols R.Denot) → Fml
lends_volumes R G pages lent = Lends (the_row R G) (volumes_row R G) pages lent (with_volumes pages.now)
