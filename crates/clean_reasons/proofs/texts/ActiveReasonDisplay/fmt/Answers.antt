use Rattle.clean_reasons.proofs.Prelude.{sym, active_text}
use Rattle.clean_reasons.proofs.texts.ActiveReasonDisplay.fmt.Goals as goal

pub returns-in-Superior-clause-writes : goal.returns-in-Superior-clause-writes
unfolding active_text
returns-in-Superior-clause-writes g c = rw c.in-Superior.is c.write-in-Superior.ensures.writes

pub returns-in-Pool-clause-writes : goal.returns-in-Pool-clause-writes
unfolding active_text
returns-in-Pool-clause-writes g c = rw c.in-Pool.is (rw (sym c.pool_pages.ensures) c.write-in-Pool.ensures.writes)
