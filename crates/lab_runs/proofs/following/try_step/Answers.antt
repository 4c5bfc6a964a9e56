use Rattle.lab_runs.proofs.UntilLaws.{Bool, CameTo, rules, seen_is, subst}
use Rattle.lab_runs.proofs.following.try_step.Goals as goal

pub returns-clause-tried : goal.returns-clause-tried
returns-clause-tried c = record {
  step = c.in_ok-step.step;
  made = c.in_ok-step.ensures.made;
  its = c.in_ok-step.ensures.processor;
  pushed = c.in_ok-push.ensures.items;
  came = subst (λ (b : Bool). CameTo c.came_of.result b c.in_ok-step.step.answer)
      (seen_is c.args.text.now c.args.machine.now c.make_step.new.machine c.len-before.result _ c.in_ok-seen.seen
      (search rules) (search rules) c.in_ok-seen.ensures) c.came_of.ensures;
}
