use Rattle.machine.proofs.Prelude.{◌∙◌, rules}
use Rattle.machine.proofs.LoopCalls.{awaited_fell, awaited_planned, may_wait, moved_alone, owner_there, gone_on, owner_turned, stalled_on}
use Rattle.machine.proofs.machine.Machine.job_turn.Goals as goal

pub turn-requires : goal.turn-requires
turn-requires g c = rw (← c.promise.ensures.machine.keeps.sizes.processors)
    (owner_there _ c.args.c c.promise.ensures c.requires.owner)

pub awaited-requires : goal.awaited-requires
awaited-requires g c = may_wait c.args.self.now.state _ c.args.c c.in_ok-answer.answer
    (owner_turned c.in_ok-answer.ensures.turned c.requires.on
    (owner_there _ c.args.c c.promise.ensures c.requires.owner) c.requires.owner)

pub turn-requires-in-Some : goal.turn-requires-in-Some
turn-requires-in-Some g c = awaited_planned _ c.args.c c.in-Some.late c.in_ok-answer.answer
    c.in_ok-answer.ensures.turned.now c.in-Some.ensures.some

pub returns-in_ok-turn-in-Some-clause-fell : goal.returns-in_ok-turn-in-Some-clause-fell
returns-in_ok-turn-in-Some-clause-fell g c = awaited_fell c.args.self.now.state c.turn.new.self.state
    c.turn-in-Some.new.self.state c.args.c c.in-Some.late c.in_ok-turn-in-Some.field-0
    (c.in_ok-answer.ensures.gone.stopped ∙ c.requires.on) c.in_ok-turn-in-Some.ensures.turned c.in_ok-answer.answer
    (owner_turned c.in_ok-answer.ensures.turned c.requires.on
    (owner_there _ c.args.c c.promise.ensures c.requires.owner) c.requires.owner) c.in-Some.ensures.some

pub returns-in-None-clause-fell : goal.returns-in-None-clause-fell
returns-in-None-clause-fell g c = moved_alone c.args.self.now.state c.turn.new.self.state c.args.c c.in_ok-answer.answer
    (owner_turned c.in_ok-answer.ensures.turned c.requires.on
    (owner_there _ c.args.c c.promise.ensures c.requires.owner) c.requires.owner) c.in-None.ensures.none

pub returns-in_err-turn-in-Some-clause-stalled : goal.returns-in_err-turn-in-Some-clause-stalled
returns-in_err-turn-in-Some-clause-stalled g c =
    let stalled = stalled_on c.in_ok-answer.ensures.gone c.in_err-turn-in-Some.ensures.stalled in
    search (rules, stalled)

pub returns-in_ok-turn-in-Some-clause-gone : goal.returns-in_ok-turn-in-Some-clause-gone
returns-in_ok-turn-in-Some-clause-gone g c = gone_on c.in_ok-answer.ensures.gone c.in_ok-turn-in-Some.ensures.gone
