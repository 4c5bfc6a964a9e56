use Rattle.lab_runs.proofs.CountLaws.{drawn_by, drawn_counted, drawn_told}
use Rattle.lab_runs.proofs.drawing.run_drawn.Goals as goal

pub end-requires-clause-told : goal.end-requires-clause-told
end-requires-clause-told c = drawn_told _ _ _ _ c.in_ok-machine.ensures.booted c.in_ok-machine.ensures.script
    c.in-Ok.ensures

pub end-requires-clause-counted : goal.end-requires-clause-counted
end-requires-clause-counted c = drawn_counted _ _ _ _ c.in_ok-machine.ensures.booted c.in_ok-machine.ensures.script
    c.in-Ok.ensures c.in_ok-machine.ensures.counted

pub returns-in-Ok : goal.returns-in-Ok
returns-in-Ok c = drawn_by _ _ _ _ c.in_ok-machine.ensures.booted c.in_ok-machine.ensures.script c.in-Ok.ensures
    _ _ c.end.ensures
