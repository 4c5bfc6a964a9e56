use Rattle.line_reasons.proofs.Prelude.{entry_reason_text}
use Rattle.line_reasons.proofs.entry_reasons.EntryReasonDisplay.fmt.Goals as goal

pub returns-in-OtherWord-clause-writes : goal.returns-in-OtherWord-clause-writes
unfolding entry_reason_text
returns-in-OtherWord-clause-writes g c plain ok = rw c.in-OtherWord.is (c.write-in-OtherWord.ensures.writes plain ok)

pub returns-in-PageOrSeg-clause-writes : goal.returns-in-PageOrSeg-clause-writes
unfolding entry_reason_text
returns-in-PageOrSeg-clause-writes g c plain ok = rw c.in-PageOrSeg.is (c.write-in-PageOrSeg.ensures.writes plain ok)
