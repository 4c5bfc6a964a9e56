use Rattle.lab_calls.proofs.EndLaws.{Err, Unread, ap, read_ends, rules, unread_ends}
use Rattle.lab_calls.proofs.top.read_and_run.Goals as goal

pub returns-in-Ok : goal.returns-in-Ok
returns-in-Ok g c = read_ends c.args.form _ _ c.in-Ok.bytes.items c.limit.result _ c.limit.ensures.limit
    c.in-Ok.ensures.whole (search rules) (rw (← c.deref.ensures.value) c.serve.ensures) c.in-Ok.ensures.front

pub returns-in-Err : goal.returns-in-Err
returns-in-Err g c = rw c.without_run.ensures (unread_ends c.args.form _ _ c.limit.result _ c.in-Err.unread
    c.limit.ensures.limit c.end_unread.ensures (λ e. c.in-Err.ensures.longer (ap (λ (u : Unread). Err u) e))
    (λ e. c.in-Err.ensures.fault (ap (λ (u : Unread). Err u) e)) c.in-Err.ensures.front)
