use Rattle.live_doors.proofs.Prelude.{ap, rules, ◌∙◌}
use Rattle.live_doors.proofs.Calls.{written_whole}
use Rattle.live_doors.proofs.Keeps.{ended_doors, ended_request}
use Rattle.live_doors.proofs.doors.LiveDoors.close.Goals as goal

pub returns-clause-doors : goal.returns-clause-doors
returns-clause-doors c = written_whole c.rows.inside.doors.items (search rules) (search rules) ∙ ended_doors _
    c.keeper.invariant.seat c.close_with-closed.ensures.values.2 (search rules) (search rules)
    ∙ ap (λ v. v.watch.doors) (c.keeper.view_is ∙ c.take_all_in.ensures)

pub returns-clause-request : goal.returns-clause-request
returns-clause-request c = ended_request _ c.keeper.invariant.seat c.close_with-closed.ensures.values.2
    c.word-request.ensures ∙ ap (λ v. v.watch.request) (c.keeper.view_is ∙ c.take_all_in.ensures)
