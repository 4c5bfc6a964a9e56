use Rattle.machine.proofs.Prelude.{after, refl}
use Rattle.machine.proofs.Laws.{does, quiet_turn, changed_sound, told_through, through_bound}
use Rattle.machine.proofs.machine.Machine.through.Goals as goal

pub reach-word-requires : goal.reach-word-requires
reach-word-requires g c = through_bound (does c.self.view_is c.self.invariant c.requires)

pub tell-requires-clause-run : goal.tell-requires-clause-run
tell-requires-clause-run g c = rw c.reach-word.ensures.effect (rw c.self.view_is c.to_answer-process.ensures.run)

pub tell-requires-clause-place : goal.tell-requires-clause-place
tell-requires-clause-place g c = rw c.reach-word.ensures.effect (rw c.self.view_is c.to_answer-process.ensures.place)

pub tell-requires-clause-ready : goal.tell-requires-clause-ready
tell-requires-clause-ready g c = rw c.reach-word.ensures.effect (rw c.self.view_is c.to_answer-process.ensures.ready)

pub returns : goal.returns
unfolding after
returns g c =
    let its = rw (← c.self.view_is) at c.to_answer-process.ensures.process in
    quiet_turn c.self.view_is c.requires (told_through _ c.args.c c.args.frame c.args.reference its
    c.reach-word.ensures.effect c.reach-word.ensures.word
    c.word_reply-reply.ensures c.tell.ensures) refl (rw its) (refl, refl) tt

pub invariant_of-self : goal.invariant_of-self
unfolding after
invariant_of-self g c =
    let its = rw (← c.self.view_is) at c.to_answer-process.ensures.process in
    let done = told_through _ c.args.c c.args.frame c.args.reference its c.reach-word.ensures.effect
    c.reach-word.ensures.word c.word_reply-reply.ensures c.tell.ensures in
    changed_sound (does c.self.view_is c.self.invariant c.requires) (rw done) (rw done)
    (assumption c.promise.ensures) (rw c.tell.ensures (c.reach-word.ensures.shown _))
