use Rattle.lab_runs.proofs.StepLaws.{all_more, ◌∙◌}
use Rattle.lab_runs.proofs.steps.make_steps.Goals as goal

pub loop-c-preserved : goal.loop-c-preserved
loop-c-preserved c = record {
  made = all_more c.args.machine.now c.loop-c.machine c.make_step.new.machine c.args.steps.now.items
      c.loop-c.steps.items
      c.push.new.self.items c.args.cpus.now c.loop-c.c-index c.in_ok-step.step c.loop-c.invariant.made
      c.in_ok-step.ensures.made c.in_ok-step.ensures.processor c.in_ok-push.ensures.items c.loop-c-test.true;
  script = c.in_ok-step.ensures.script ∙ c.loop-c.invariant.script;
}
