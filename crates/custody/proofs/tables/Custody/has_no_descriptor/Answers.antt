use Rattle.custody.proofs.ScanLaws.{no_descriptor_decides}
use Rattle.custody.proofs.tables.Custody.has_no_descriptor.Goals as goal

pub returns : goal.returns
returns c = no_descriptor_decides c.args.self.now c.args.uid c.somebody_leads_to.result c.somebody_leads_to.ensures
