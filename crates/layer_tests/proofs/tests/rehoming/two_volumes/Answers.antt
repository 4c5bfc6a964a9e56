use Rattle.layer_tests.proofs.Rehomed.{DriveState, filed_new}
use Rattle.layer_tests.proofs.tests.rehoming.two_volumes.Goals as goal

pub returns : goal.returns
returns c = record { filed = filed_new (λ (d : DriveState). d.pages) _ c.new-2.result c.new-2.ensures }
