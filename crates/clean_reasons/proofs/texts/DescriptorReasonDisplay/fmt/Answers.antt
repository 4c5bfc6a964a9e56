use Rattle.clean_reasons.proofs.Prelude.{descriptor_text}
use Rattle.clean_reasons.proofs.texts.DescriptorReasonDisplay.fmt.Goals as goal

pub returns-in-Leads-clause-writes : goal.returns-in-Leads-clause-writes
unfolding descriptor_text
returns-in-Leads-clause-writes g c = rw c.in-Leads.is c.write.ensures.writes

pub returns-in-Unknown-clause-writes : goal.returns-in-Unknown-clause-writes
unfolding descriptor_text
returns-in-Unknown-clause-writes g c = rw c.in-Unknown.is c.write-in-Unknown.ensures.writes

pub returns-in-Unnamed-clause-writes : goal.returns-in-Unnamed-clause-writes
unfolding descriptor_text
returns-in-Unnamed-clause-writes g c = rw c.in-Unnamed.is c.write-in-Unnamed.ensures.writes
