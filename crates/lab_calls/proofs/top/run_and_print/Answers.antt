use Rattle.lab_calls.proofs.EndLaws.{run_ends, traceable}
use Rattle.lab_calls.proofs.top.run_and_print.Goals as goal

pub print_run-status-requires : goal.print_run-status-requires
print_run-status-requires g c = traceable _ _ _ c.in-Ok.ensures.run

pub returns-in-Ok : goal.returns-in-Ok
returns-in-Ok g c = run_ends _ _ _ _ _ _ c.in-Ok.ensures.run c.print_run-status.ensures.printed
