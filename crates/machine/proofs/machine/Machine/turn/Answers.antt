use Rattle.machine.proofs.Prelude.{rules}
use Rattle.machine.proofs.LoopCalls.{gone_round, stalled_at, turned_by}
use Rattle.machine.proofs.machine.Machine.turn.Goals as goal

pub returns-in_err-reserve-clause-stalled : goal.returns-in_err-reserve-clause-stalled
returns-in_err-reserve-clause-stalled g c =
    let stalled = stalled_at {plan = g.D.Drive.plan} {places = g.D.Drive.places} {faults = g.D.Drive.faults}
    {a = c.args.self.now} c.reserve.ensures.rest in
    search (rules, stalled)

pub returns-clause-gone : goal.returns-clause-gone
returns-clause-gone g c = gone_round c.reserve.ensures.rest c.step-answer.ensures.turn
    c.step-answer.ensures.entries c.step-answer.ensures.kept c.step-answer.ensures.faults

pub returns-clause-turned : goal.returns-clause-turned
returns-clause-turned g c = turned_by c.reserve.ensures.rest c.promise.ensures c.promise-2.ensures
    c.step-answer.ensures.turn
