use Rattle.clean_reasons.proofs.Prelude.{frame_text}
use Rattle.clean_reasons.proofs.texts.FrameReasonDisplay.fmt.Goals as goal

pub returns-in-PageIn-clause-writes : goal.returns-in-PageIn-clause-writes
unfolding frame_text
returns-in-PageIn-clause-writes g c = rw c.in-PageIn.is c.write-in-PageIn.ensures.writes

pub returns-in-PageRead-clause-writes : goal.returns-in-PageRead-clause-writes
unfolding frame_text
returns-in-PageRead-clause-writes g c = rw c.in-PageRead.is c.write-in-PageRead.ensures.writes

pub returns-in-NoPage-clause-writes : goal.returns-in-NoPage-clause-writes
unfolding frame_text
returns-in-NoPage-clause-writes g c = rw c.in-NoPage.is c.write-in-NoPage.ensures.writes
