-- What the threads of the race begin with.
use Rattle.std.specs.Prelude.{◌≡◌, ℕ, ◌<◌}
use Rattle.live_doors.specs.Doors.{DoorsModel, KeeperModel, IsKeeperOf, IsAdmitted}

-- the keeper of these doors, of 1000 frames, which are all admitted, before it has raised a stamp
pub record IsReady (doors : DoorsModel) (keeper : KeeperModel) : Type 0 where
  pub keeper_of : IsKeeperOf doors keeper
  pub frames : doors.frames ≡ 1000
  pub fresh : keeper.watch.request ≡ 0
  pub admitted : (f : ℕ) → f < 1000 → IsAdmitted keeper.watch f
