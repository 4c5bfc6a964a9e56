use Rattle.runner.proofs.DriveLaws.{all_counted, told_faults}
use Rattle.runner.proofs.running.left.Goals as goal

pub returns-clause-run : goal.returns-clause-run
returns-clause-run c =
    let book = c.book.ensures in
    record {
      legal = rw (← book.script, ← book.entries) book.legal;
      clean = rw (← book.script, ← book.entries) book.clean;
      drives = record { told = c.requires.told; sizes = c.volumes.ensures.sizes };
      faults = told_faults c.args.machine.state.plan c.args.machine.drives c.requires.told
          (rw (← c.volumes.ensures.drives) c.promise.ensures.few) c.args.machine.state.entries
          (all_counted c.args.machine.state.entries c.args.machine.drives (rw (← book.entries) book.few)
          c.requires.counted.drives);
    }
