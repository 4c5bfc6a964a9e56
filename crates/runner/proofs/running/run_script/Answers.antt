use Rattle.runner.proofs.Ends.{left_booted, left_printed, left_run, left_script}
use Rattle.runner.proofs.running.run_script.Goals as goal

pub returns-clause-printed : goal.returns-clause-printed
returns-clause-printed g c = left_printed _ _ _ _ c.run_machine.ensures

pub returns-clause-script : goal.returns-clause-script
returns-clause-script g c = rw (← c.in-Ok.ensures.script) (left_script _ _ _ _ c.run_machine.ensures)

pub returns-clause-run : goal.returns-clause-run
returns-clause-run g c = left_run _ _ _ _ c.run_machine.ensures

pub returns-clause-booted : goal.returns-clause-booted
returns-clause-booted g c = left_booted _ _ _ _ c.run_machine.ensures
