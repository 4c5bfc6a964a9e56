use Rattle.script.proofs.Prelude.{◌∙◌, ap, DraftPlan, is_inside}
use Rattle.script.proofs.DraftLaws.{listed_kept, listed_steps}
use Rattle.script.proofs.drafts.Draft.going_command.Goals as goal

pub invariant_of-self : goal.invariant_of-self
invariant_of-self c = listed_kept _ _ c.line.result c.args.word.now _ c.self.invariant
    (ap (λ (d : DraftPlan). is_inside d.stage) c.self.view_is ∙ c.requires.inside) c.requires.going
    (rw c.deref.ensures.value at c.line.ensures)

pub returns : goal.returns
returns c = rw (← c.self.view_is) (listed_steps _ _ c.line.result c.args.word.now _ c.requires.going
    (rw c.deref.ensures.value at c.line.ensures))
