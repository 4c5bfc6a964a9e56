use Rattle.script.proofs.ReaderLaws.{script_ended}
use Rattle.script.proofs.reader.read_script.Goals as goal

pub returns-in-Ok : goal.returns-in-Ok
returns-in-Ok c = script_ended _ _ _ _ _ c.blank-draft.ensures c.in_ok-number.ensures c.in-Ok.ensures

pub returns-in-Err : goal.returns-in-Err
returns-in-Err c = script_ended _ _ _ _ _ c.blank-draft.ensures c.in_ok-number.ensures c.in-Err.ensures
