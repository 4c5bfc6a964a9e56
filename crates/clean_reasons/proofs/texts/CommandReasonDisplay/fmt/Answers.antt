use Rattle.clean_reasons.proofs.Prelude.{command_text}
use Rattle.clean_reasons.proofs.texts.CommandReasonDisplay.fmt.Goals as goal

pub returns-in-Stored-clause-writes : goal.returns-in-Stored-clause-writes
unfolding command_text
returns-in-Stored-clause-writes g c = rw c.in-Stored.is c.write-in-Stored.ensures.writes

pub returns-in-Tree-clause-writes : goal.returns-in-Tree-clause-writes
unfolding command_text
returns-in-Tree-clause-writes g c = rw c.in-Tree.is c.write-in-Tree.ensures.writes
