use Rattle.lab_runs.proofs.Prelude.{AreTold, Plan, any_places, counted_on, faults_in, keeps_on, plan_of, rules, subst, sym, told_still, ◌∙◌}
use Rattle.lab_runs.proofs.running.finish.Goals as goal

pub promise-requires-clause-told : goal.promise-requires-clause-told
promise-requires-clause-told c =
    let kept = keeps_on plan_of any_places faults_in c.args.machine.now c.finish.new.self
    c.shut_down_machine.new.machine c.finish.ensures.kept c.shut_down_machine.ensures.kept in
    subst (λ (p : Plan). AreTold p c.shut_down_machine.new.machine.drives) (sym kept.script)
    (told_still c.args.machine.now.state.plan c.args.machine.now.drives c.shut_down_machine.new.machine.drives
    kept.plans kept.stores c.requires.told)

pub promise-requires-clause-counted : goal.promise-requires-clause-counted
promise-requires-clause-counted c =
    counted_on faults_in 0 0 c.finish.new.self c.shut_down_machine.new.machine
    (counted_on faults_in 0 0 c.args.machine.now c.finish.new.self c.requires.counted c.finish.ensures.kept.alike)
    c.shut_down_machine.ensures.kept.alike

pub returns : goal.returns
returns c =
    let ran = c.in_ok-finish.ensures.run in
    record {
      finished = c.finish.new.self;
      ended = record {
        cpus = ran.0;
        moved = ran.1;
        finish = ran.2;
        shutdown = c.shut_down_machine.ensures.entries;
        kept = c.shut_down_machine.ensures.kept;
        run = c.promise.ensures;
        down = c.in_ok-shut_down_machine.ensures.ended;
        rest = c.in_ok-shut_down_machine.ensures.still;
      };
      script = c.shut_down_machine.ensures.kept.script ∙ c.finish.ensures.kept.script;
      stepped_is = search rules;
      finished_is = search rules;
    }
