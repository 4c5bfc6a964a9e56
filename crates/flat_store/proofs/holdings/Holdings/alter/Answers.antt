use Rattle.flat_store.proofs.Prelude.{sym, ◌∙◌}
use Rattle.flat_store.proofs.PutLaws.{alter_shown, held_altered}
use Rattle.flat_store.proofs.holdings.Holdings.alter.Goals as goal

pub invariant_of-self : goal.invariant_of-self
invariant_of-self c =
    held_altered c.args.uid c.args.offset c.args.kind.now c.alter.result c.self.invariant c.alter.ensures.there
    c.alter.ensures.yes c.alter.ensures.no

pub returns-clause-yes : goal.returns-clause-yes
returns-clause-yes c = λ on p s h. alter_shown c.args.uid c.args.offset c.args.kind.now (rw (← c.self.view_is) at h)
    (sym c.alter.ensures.there ∙ on) (c.alter.ensures.yes on)
