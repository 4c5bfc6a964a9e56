-- The run is that of the machine that is handed in.
use Rattle.std.proofs.Common.{count_by, map, sum_by}
use Rattle.machine_model.specs.Keeps.{is_fault}
use Rattle.workers.proofs.runs.run_workers.Given as goal

abbrev pub ghosts-run_under_lock : goal.ghosts-run_under_lock
ghosts-run_under_lock g a = record {
  script = a.machine.state.plan;
  cpus = a.machine.state.plan.processors;
  plans = map g.D.Drive.plan a.machine.drives;
  places = map g.D.Drive.places a.machine.drives;
  counted = sum_by g.D.Drive.faults a.machine.drives;
  told = count_by is_fault a.machine.state.entries;
}
