use Rattle.lab_runs.proofs.UntilLaws.{arith, go_on, missed_all, refl, stop_ended, stop_seen, trying_start, ◌∙◌}
use Rattle.lab_runs.proofs.following.make_until.Goals as goal

pub loop-tries-init : goal.loop-tries-init
loop-tries-init c = record {
  trying = trying_start c.args.c c.args.text.now c.args.machine.now c.args.steps.now.items;
  script = refl;
}

pub returns-in-Seen-clause-tried : goal.returns-in-Seen-clause-tried
returns-in-Seen-clause-tried c = stop_seen _ _ _ _ _ _ _ _ c.loop-tries._tries c.loop-tries.invariant.trying
    (rw (← c.in-Seen.is) c.in_ok-trial.ensures.tried) (omega arith)

pub returns-in-Ended-clause-tried : goal.returns-in-Ended-clause-tried
returns-in-Ended-clause-tried c = stop_ended _ _ _ _ _ _ _ _ c.loop-tries._tries c.loop-tries.invariant.trying
    (rw (← c.in-Ended.is) c.in_ok-trial.ensures.tried)

pub loop-tries-preserved : goal.loop-tries-preserved
loop-tries-preserved c = record {
  trying = go_on _ _ _ _ _ _ _ _ c.loop-tries._tries c.loop-tries.invariant.trying
      (rw (← c.in-Missed.is) c.in_ok-trial.ensures.tried);
  script = c.in_ok-trial.ensures.script ∙ c.loop-tries.invariant.script;
}

pub returns-clause-tried : goal.returns-clause-tried
returns-clause-tried c = missed_all _ _ _ _ _ _ c.loop-tries._tries c.loop-tries.invariant.trying (omega arith)
