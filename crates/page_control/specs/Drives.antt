-- What a call of one drive keeps (own).
use Rattle.std.specs.Prelude.{◌≡◌, ◌≤◌, ℕ, List, Result, OnOk, OnErr, length, map, sum_by}
use Rattle.site_io.specs.Faults.{Rose}
use Rattle.volumes.specs.FailLine.{IsOneMore}
use Rattle.volumes.specs.Volumes.{KeepsOthers, faults_at}

-- Every drive but that of volume v is as before, and so are the plans and the places of all. The drives count exactly
-- the
-- call that fails: where it was done each count is as before, and where it failed that of volume v's drive is one more,
-- if it isn't at its end. The three meanings are the drive's.
pub record CallsDrive {D Plan T E : Type 0} (plan : D → Plan) (places faults : D → ℕ) (old new : List D) (v : ℕ)
    (result : Result T E) : Type 0 where
  pub plans : map plan new ≡ map plan old
  pub stores : map places new ≡ map places old
  pub count : length new ≡ length old
  pub grows : sum_by faults old ≤ sum_by faults new
  pub others : KeepsOthers old new v
  pub told : OnOk result (map faults new ≡ map faults old)
  pub once : OnErr result (IsOneMore (faults_at faults old v) (faults_at faults new v))
  pub rose : OnErr result (Rose (faults_at faults old v) (faults_at faults new v))
