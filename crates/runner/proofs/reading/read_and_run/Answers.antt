use Rattle.runner.proofs.Prelude.{Err, ap, refl, Unread}
use Rattle.runner.proofs.Ends.{ends_unread}
use Rattle.runner.proofs.reading.read_and_run.Goals as goal

pub returns-in-Err : goal.returns-in-Err
returns-in-Err g c = ends_unread _ _ _ _ c.in-Err.unread tt refl c.end_unread.ensures.unread
    c.end_unread.ensures.machine (λ e. c.in-Err.ensures.longer (ap (λ (u : Unread). Err u) e))
    (λ e. c.in-Err.ensures.fault (ap (λ (u : Unread). Err u) e)) c.in-Err.ensures.front
