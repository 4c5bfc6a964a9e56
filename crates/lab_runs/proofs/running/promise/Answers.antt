use Rattle.lab_runs.proofs.Prelude.{all_counted, told_faults}
use Rattle.lab_runs.proofs.running.promise.Goals as goal

pub returns : goal.returns
returns c =
    let book = c.book.ensures in
    let machine = c.args.machine.now in
    record {
      legal = rw (← book.script, ← book.entries) book.legal;
      clean = rw (← book.script, ← book.entries) book.clean;
      drives = record { told = c.requires.told; sizes = c.volumes.ensures.sizes };
      faults = told_faults machine.state.plan machine.drives c.requires.told
          (rw (← c.volumes.ensures.drives) c.promise.ensures.few) machine.state.entries
          (all_counted machine.state.entries machine.drives (rw (← book.entries) book.few) c.requires.counted.drives);
    }
