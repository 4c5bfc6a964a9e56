use Rattle.flat_store.proofs.Prelude.{cond, ap, ◌∙◌, w32, to_z-of_z, Plan, after_move, takes_effect, Store, Holds}
use Rattle.flat_store.specs.contracts.holdings.Holdings.{the_view}
use Rattle.flat_store.proofs.DropLaws.{tree_inside}
use Rattle.flat_store.proofs.EffectLaws.{move_shown}
use Rattle.flat_store.proofs.holdings.Holdings.move_quota.Goals.{After-move_quota-reply}
use Rattle.flat_store.proofs.holdings.Holdings.move_quota.Goals as goal

-- quota was moved, unless that was refused
shown : (c : After-move_quota-reply) {p : Plan} {s : Store} → Holds p (the_view c.self.inside) s
    → Holds p (record (the_view c.self.inside) { accounts = c.move_quota-reply.new.accounts })
    (cond (takes_effect c.move_quota-reply.result) (after_move s c.args.path.now c.args.amount) s)
shown c h = move_shown c.args.path.now c.args.amount c.move_quota-reply.result h
    (rw (to_z-of_z w32 c.args.amount c.ranges.amount) at c.move_quota-reply.ensures.done)
    c.move_quota-reply.ensures.refused

pub invariant_of-self : goal.invariant_of-self
invariant_of-self c = let (p, s, h) = c.self.invariant in (p, _, shown c h)

pub returns : goal.returns
returns c = λ p s h effect.
    let answer = (rw (to_z-of_z w32 c.args.amount c.ranges.amount) at c.move_quota-reply.ensures.answer) s
    (tree_inside c.self.view_is h) in
    rw (ap takes_effect answer ∙ effect) at (shown c (rw (← c.self.view_is) at h))
