use Rattle.custody.proofs.ScanLaws.{descriptor_goes_decides}
use Rattle.custody.proofs.tables.Custody.a_descriptor_goes.Goals as goal

pub returns : goal.returns
returns c = descriptor_goes_decides c.args.self.now c.some_descriptor_goes.result c.some_descriptor_goes.ensures
