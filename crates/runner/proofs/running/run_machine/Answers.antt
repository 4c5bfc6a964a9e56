use Rattle.runner.proofs.Prelude.{sym, subst, ◌∙◌, Plan, counted_on, AreTold, faults_in}
use Rattle.runner.proofs.DriveLaws.{told_still}
use Rattle.runner.proofs.running.run_machine.Goals as goal

pub left-requires-clause-told : goal.left-requires-clause-told
left-requires-clause-told g c =
    let ended = c.end_and_print-status.ensures.kept in
    let ran = c.run_workers-machine.ensures in
    subst (λ (p : Plan). AreTold p c.end_and_print-status.new.machine.drives) (sym (ended.script ∙ ran.script))
    (told_still c.args.machine.state.plan c.args.machine.drives c.end_and_print-status.new.machine.drives
    (ended.plans ∙ ran.plans) (ended.stores ∙ ran.places) c.requires.told)

pub left-requires-clause-counted : goal.left-requires-clause-counted
left-requires-clause-counted g c =
    counted_on faults_in 0 0 c.run_workers-machine.result c.end_and_print-status.new.machine
    (counted_on faults_in 0 0 c.args.machine c.run_workers-machine.result c.requires.counted
    c.run_workers-machine.ensures.alike) c.end_and_print-status.ensures.kept.alike

pub returns : goal.returns
returns g c =
    let ended = c.end_and_print-status.ensures in
    let ran = c.run_workers-machine.ensures in
    rw (c.left.ensures.machine, c.left.ensures.status) (record {
      script = ended.kept.script ∙ ran.script;
      run = c.left.ensures.run;
      printed = ended.printed;
      status = ended.status;
    })
