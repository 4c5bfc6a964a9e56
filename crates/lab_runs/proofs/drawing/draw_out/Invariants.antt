use Rattle.lab_runs.proofs.DrawLaws.{HaveDrawn, length, ◌-◌, ◌^◌, ◌≡◌}
use Rattle.lab_runs.proofs.drawing.draw_out.Given as goal

-- drawn processors made steps
abbrev pub invariant-loop-trial : goal.invariant-loop-trial
invariant-loop-trial l = record {
  drawn : HaveDrawn l.fn.machine.state.plan.processors l.fn.machine l.machine l.seed l.draws.state;
  script : l.machine.state.plan ≡ l.fn.machine.state.plan;
}

-- each answer makes the book longer, which has fewer entries than these
abbrev pub decreases-loop-trial : goal.decreases-loop-trial
decreases-loop-trial l = 2 ^ 63 - length l.machine.state.entries
