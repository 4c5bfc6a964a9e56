-- What a machine keeps between any two steps (own).
use Rattle.std.specs.Prelude.{◌≡◌, length}
use Rattle.machine_model.specs.Promise.{KeepsAll}
use Rattle.machine_model.specs.Visits.{AreVisited}
use Rattle.machine_tables.specs.Parts.{Parts}

-- the whole promise; a ready list with room for each process of the script; a drive for each of its volumes; and what
-- holds of the frames that the shutdown has visited
pub record IsSound {D : Type 0} (t : Parts D) : Type 0 where
  pub keeps : KeepsAll t.state
  pub room : t.room ≡ length t.state.plan.processes
  pub drives : length t.state.store.pages.disks ≡ length t.state.plan.volumes
  pub visits : AreVisited t.state
