use Rattle.lab_runs.proofs.DrawLaws.{IsDrawing, length, ◌<◌, ◌^◌, ◌≡◌}
use Rattle.lab_runs.proofs.drawing.draw_until.Given as goal

-- so many steps were made, and answered no command
abbrev pub invariant-loop-step : goal.invariant-loop-step
invariant-loop-step l = record {
  drawing : IsDrawing l.fn.machine.state.plan.processors l.fn.machine l.machine l.fn.draws.state l.draws.state l._step;
  script : l.machine.state.plan ≡ l.fn.machine.state.plan;
  few : length l.machine.state.entries < 2 ^ 63;
}
