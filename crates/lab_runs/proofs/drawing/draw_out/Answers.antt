use Rattle.lab_runs.proofs.DrawLaws.{have_none, have_on, out_ended, out_idle, refl, seen_smaller, ◌∙◌}
use Rattle.lab_runs.proofs.drawing.draw_out.Goals as goal

pub loop-trial-init : goal.loop-trial-init
loop-trial-init c = record {
  drawn = rw c.of-draws.ensures (have_none _ _ _);
  script = refl;
}

pub loop-trial-smaller : goal.loop-trial-smaller
loop-trial-smaller c = seen_smaller c.loop-trial.machine.state.plan.processors c.loop-trial.machine
    c.draw_until.new.machine c.loop-trial.draws.state c.draw_until.new.draws.state
    (rw (← c.in-Seen.is) c.in_ok-trial.ensures.drawn) c.in_ok-trial.ensures.few

pub loop-trial-preserved : goal.loop-trial-preserved
loop-trial-preserved c = record {
  drawn = have_on _ _ _ _ _ _ _ c.loop-trial.invariant.drawn
      (rw (← c.in-Seen.is, ← c.loop-trial.invariant.script) c.in_ok-trial.ensures.drawn);
  script = c.in_ok-trial.ensures.script ∙ c.loop-trial.invariant.script;
}

pub returns-in-Ended : goal.returns-in-Ended
returns-in-Ended c = out_ended _ _ _ _ _ _ c.draw_until.new.draws.state c.loop-trial.invariant.drawn
    (rw (← c.in-Ended.is, ← c.loop-trial.invariant.script) c.in_ok-trial.ensures.drawn)

pub returns-in-Missed : goal.returns-in-Missed
returns-in-Missed c = out_idle _ _ _ _ _ _ c.draw_until.new.draws.state c.loop-trial.invariant.drawn
    (rw (← c.in-Missed.is, ← c.loop-trial.invariant.script) c.in_ok-trial.ensures.drawn)
