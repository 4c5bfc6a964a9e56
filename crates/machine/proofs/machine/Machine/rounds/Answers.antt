use Rattle.machine.proofs.Prelude.{◌∙◌, arith, rules}
use Rattle.machine.proofs.RunLaws.{round_few, run_next, stood_at}
use Rattle.machine.proofs.machine.Machine.rounds.Goals as goal

pub loop-c-preserved : goal.loop-c-preserved
loop-c-preserved g c = record {
  run = run_next _ _ _ c.args.self.now c.loop-c.self c.round.new.self c.args.cpus.now c.loop-c.c-index c.loop-c.moved _
      c.loop-c.invariant.run c.loop-c-test.true c.in_ok-moved.ensures.made;
  few = omega (arith, round_few _ _ _ c.loop-c.self c.round.new.self _ _ c.in_ok-moved.ensures.made);
  plan = c.in_ok-moved.ensures.made.kept.script ∙ c.loop-c.invariant.plan;
}

pub returns-in_err-moved-clause-stood : goal.returns-in_err-moved-clause-stood
returns-in_err-moved-clause-stood g c =
    let stood = stood_at _ _ _ c.args.self.now c.loop-c.self c.round.new.self c.args.cpus.now c.loop-c.c-index
    c.loop-c.moved c.loop-c.invariant.run c.in_err-moved.ensures.refused in search (rules, stood)
