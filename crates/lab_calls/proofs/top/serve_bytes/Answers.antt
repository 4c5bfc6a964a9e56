use Rattle.lab_calls.proofs.EndLaws.{bytes_run}
use Rattle.lab_calls.proofs.top.serve_bytes.Goals as goal

pub returns-in-Ok : goal.returns-in-Ok
returns-in-Ok g c = bytes_run _ _ _ _ _ _ c.in-Ok.ensures.given c.run_and_print.ensures
