use Rattle.machine.proofs.Prelude.{rules, IsSound}
use Rattle.machine.proofs.StepLaws.{processor_there, step_appends, step_changes, step_faults, step_keeps}
use Rattle.machine.proofs.machine.Machine.step.Goals as goal

pub act-turn-requires : goal.act-turn-requires
act-turn-requires g c =
    let sound : IsSound c.args.self.now = rw (← c.self.view_is) c.self.invariant in
    record {
      doing = search rules;
      there = processor_there sound c.requires.processor;
      room = c.requires.room;
    }

pub returns : goal.returns
returns g c =
    let sound : IsSound c.args.self.now = rw (← c.self.view_is) c.self.invariant in
    let there = processor_there sound c.requires.processor in
    assumption (
      step_appends sound there c.act-turn.ensures,
      step_keeps sound there c.act-turn.ensures,
      step_changes sound there c.act-turn.ensures,
      step_faults sound there c.act-turn.ensures,
    )
