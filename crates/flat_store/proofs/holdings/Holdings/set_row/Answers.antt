use Rattle.flat_store.proofs.Prelude.{cond, ap, ◌∙◌, Plan, after_acl, takes_effect, Store, Holds}
use Rattle.flat_store.specs.contracts.holdings.Holdings.{the_view}
use Rattle.flat_store.proofs.DropLaws.{tree_inside}
use Rattle.flat_store.proofs.EffectLaws.{row_shown}
use Rattle.flat_store.proofs.holdings.Holdings.set_row.Goals.{After-set_row-reply}
use Rattle.flat_store.proofs.holdings.Holdings.set_row.Goals as goal

-- a row was set, unless that was refused
shown : (c : After-set_row-reply) {p : Plan} {s : Store} → Holds p (the_view c.self.inside) s
    → Holds p (record (the_view c.self.inside) { accounts = c.set_row-reply.new.accounts })
    (cond (takes_effect c.set_row-reply.result) (after_acl s c.args.path.now c.args.row.now c.args.mode) s)
shown c h = row_shown c.args.path.now c.args.row.now c.args.mode c.set_row-reply.result h c.set_row-reply.ensures.done
    c.set_row-reply.ensures.refused

pub invariant_of-self : goal.invariant_of-self
invariant_of-self c = let (p, s, h) = c.self.invariant in (p, _, shown c h)

pub returns : goal.returns
returns c = λ p s h effect.
    rw (ap takes_effect (c.set_row-reply.ensures.answer s (tree_inside c.self.view_is h)) ∙ effect) at
    (shown c (rw (← c.self.view_is) at h))
