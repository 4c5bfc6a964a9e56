use Rattle.lab_runs.proofs.Prelude.{MakesAll, take, ◌≡◌}
use Rattle.lab_runs.proofs.steps.make_steps.Given as goal

-- those of the list so far have made their steps
abbrev pub invariant-loop-c : goal.invariant-loop-c
invariant-loop-c l = record {
  made : MakesAll l.fn.machine l.machine l.fn.steps.items l.steps.items (take l.c-index l.cpus);
  script : l.machine.state.plan ≡ l.fn.machine.state.plan;
}
