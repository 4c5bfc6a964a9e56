use Rattle.runner.proofs.DriveLaws.{booted_by, counted_boot}
use Rattle.runner.proofs.running.boot_machine.Goals as goal

pub returns-clause-counted : goal.returns-clause-counted
returns-clause-counted c = counted_boot c.boot.result c.in_ok-drives.drives.items c.in_ok-drives.ensures.faults
    c.boot.ensures.entries c.boot.ensures.drives

pub returns-clause-booted : goal.returns-clause-booted
returns-clause-booted c = booted_by c.args.script c.boot.result c.in_ok-drives.drives.items
    c.in_ok-drives.ensures.drives c.boot.ensures.entries c.boot.ensures.drives c.boot.ensures.state
