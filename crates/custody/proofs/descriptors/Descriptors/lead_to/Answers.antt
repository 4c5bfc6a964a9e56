use Rattle.custody.proofs.LookLaws.{row_leads}
use Rattle.custody.proofs.descriptors.Descriptors.lead_to.Goals as goal

pub returns : goal.returns
returns c = row_leads c.self.view_is c.self.invariant c.args.uid c.of-count.ensures
