use Rattle.lab_runs.proofs.Prelude.{FollowsOrder, IsAstray, Plan, Strays, length, subst, ◌∙◌}
use Rattle.lab_runs.proofs.FollowLaws.{followed_next, strays_next}
use Rattle.lab_runs.proofs.following.follow.Goals as goal

pub loop-line-preserved : goal.loop-line-preserved
loop-line-preserved c = record {
  followed = followed_next
      c.args.machine.now.state.plan.processors c.args.lines.now c.line-item.result c.args.machine.now
      c.loop-line.machine c.follow_line.new.machine c.loop-line.steps.items c.follow_line.new.steps.items
      c.loop-line.line-index c.loop-line-test.true c.line-item.is c.loop-line.invariant.followed (subst
      (λ (q : Plan). FollowsOrder q.processors c.line-item.result.order c.loop-line.machine c.follow_line.new.machine
      c.loop-line.steps.items c.follow_line.new.steps.items) c.loop-line.invariant.script c.in-Ok.ensures.followed);
  script = c.follow_line.ensures.script ∙ c.loop-line.invariant.script;
}

pub returns-in-Err-clause-astray : goal.returns-in-Err-clause-astray
returns-in-Err-clause-astray c =
    strays_next c.args.machine.now.state.plan.processors
    c.args.lines.now c.line-item.result c.args.machine.now c.loop-line.machine c.loop-line.steps.items
    c.loop-line.line-index c.in-Err.astray c.loop-line-test.true c.line-item.is c.loop-line.invariant.followed (subst
    (λ (q : Plan). Strays c.line-item.result.number (IsAstray q.processors c.line-item.result.order c.loop-line.machine
    (length c.loop-line.steps.items)) c.in-Err.astray) c.loop-line.invariant.script c.in-Err.ensures.astray)
