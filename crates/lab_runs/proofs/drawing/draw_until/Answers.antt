use Rattle.lab_runs.proofs.DrawLaws.{arith, drawing_ended, drawing_missed, drawing_on, drawing_seen, drawing_start, refl, ◌∙◌}
use Rattle.lab_runs.proofs.drawing.draw_until.Goals as goal

pub returns-in-Seen-clause-drawn : goal.returns-in-Seen-clause-drawn
returns-in-Seen-clause-drawn c = drawing_seen _ _ _ _ _ _ _ _ c.loop-step.invariant.drawing (omega arith)
    (rw (← c.in-Seen.is, ← c.loop-step.invariant.script) c.in_ok-trial.ensures.drawn)

pub returns-in-Ended-clause-drawn : goal.returns-in-Ended-clause-drawn
returns-in-Ended-clause-drawn c = drawing_ended _ _ _ _ _ _ _ _ c.loop-step.invariant.drawing (omega arith)
    (rw (← c.in-Ended.is, ← c.loop-step.invariant.script) c.in_ok-trial.ensures.drawn)

pub loop-step-preserved : goal.loop-step-preserved
loop-step-preserved c = record {
  drawing = drawing_on _ _ _ _ _ _ _ c.loop-step._step c.loop-step.invariant.drawing
      (rw (← c.in-Missed.is, ← c.loop-step.invariant.script) c.in_ok-trial.ensures.drawn);
  script = c.in_ok-trial.ensures.script ∙ c.loop-step.invariant.script;
  few = c.in_ok-trial.ensures.few;
}

pub returns-clause-drawn : goal.returns-clause-drawn
returns-clause-drawn c = drawing_missed _ _ _ _ _ c.loop-step._step c.loop-step.invariant.drawing (omega arith)
