use Rattle.volumes.proofs.Faults.{few_faults}
use Rattle.volumes.proofs.core_drive.CoreDriveDrive.size.Goals as goal

pub returns-clause-few : goal.returns-clause-few
returns-clause-few c = few_faults _ _ _
