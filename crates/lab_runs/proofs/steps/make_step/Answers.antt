use Rattle.lab_runs.proofs.StepLaws.{rules, step_made}
use Rattle.lab_runs.proofs.steps.make_step.Goals as goal

pub returns-clause-made : goal.returns-clause-made
returns-clause-made c = step_made c.args.machine.now c.reserve.new.self c.step-answer.new.self
    c.args.c _ c.len-before.result c.step-answer.result c.reserve.ensures.rest c.step-answer.ensures.turn
    c.step-answer.ensures.entries c.step-answer.ensures.kept c.step-answer.ensures.faults (search rules) (search rules)
