use Rattle.lab_runs.proofs.DrawLaws.{Bool, CameTo, answered_is, rules, subst, ◌∙◌}
use Rattle.lab_runs.proofs.drawing.draw_step.Goals as goal

pub returns-clause-drawn : goal.returns-clause-drawn
returns-clause-drawn c = record {
  step = c.in_ok-step.step;
  made = c.in_ok-step.ensures.made;
  state = c.draw-c.ensures.state;
  its = c.in_ok-step.ensures.processor ∙ c.draw-c.ensures.value ∙ search rules;
  came = subst (λ (b : Bool). CameTo c.came_of.result b c.in_ok-step.step.answer)
      (answered_is c.args.machine.now c.make_step.new.machine c.len-before.result _ c.answers_from-answered.result
      (search rules) (search rules) c.answers_from-answered.ensures) c.came_of.ensures;
}
