use Rattle.schedule.proofs.ScheduledLaws.{ReadsScheduled, script_fails, script_read, subst, sym}
use Rattle.schedule.proofs.reader.read_scheduled.Goals as goal

pub returns-in-Ok-clause-given : goal.returns-in-Ok-clause-given
returns-in-Ok-clause-given c =
    let parts = c.split_input-input.ensures in
    subst (ReadsScheduled c.read_with.result) (sym (script_read c.split_input-input.result.script.now _
    _ c.in-Ok.script c.split_input-input.result.first c.split_input-input.result.found parts.script
    parts.schedule parts.first parts.found c.in-Ok.ensures)) c.read_with.ensures.given

pub returns-in-Err-clause-given : goal.returns-in-Err-clause-given
returns-in-Err-clause-given c =
    rw c.of_script.ensures (script_fails c.split_input-input.result.script.now _ c.in-Err.fault
    c.split_input-input.ensures.script c.in-Err.ensures)
