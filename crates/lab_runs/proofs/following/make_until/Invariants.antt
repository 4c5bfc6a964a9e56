use Rattle.lab_runs.proofs.UntilLaws.{IsTrying, ◌≡◌}
use Rattle.lab_runs.proofs.following.make_until.Given as goal

-- so many steps were made, and no entry that they appended begins so
abbrev pub invariant-loop-tries : goal.invariant-loop-tries
invariant-loop-tries l = record {
  trying : IsTrying l.c l.text l.fn.machine l.machine l.fn.steps.items l.steps.items l._tries;
  script : l.machine.state.plan ≡ l.fn.machine.state.plan;
}
