use Rattle.lab_runs.proofs.Prelude.{AreFollowed, take, ◌≡◌}
use Rattle.lab_runs.proofs.following.follow.Given as goal

-- the lines so far were followed
abbrev pub invariant-loop-line : goal.invariant-loop-line
invariant-loop-line l = record {
  followed : AreFollowed l.fn.machine.state.plan.processors (take l.line-index l.lines) l.fn.machine l.machine
      l.steps.items;
  script : l.machine.state.plan ≡ l.fn.machine.state.plan;
}
