use Rattle.clean_reasons.proofs.Prelude.{seat_text}
use Rattle.clean_reasons.proofs.texts.SeatReasonDisplay.fmt.Goals as goal

pub returns-in-Early-clause-writes : goal.returns-in-Early-clause-writes
unfolding seat_text
returns-in-Early-clause-writes g c = rw c.in-Early.is c.write-in-Early.ensures.writes
