use Rattle.script.proofs.Prelude.{◌∙◌, ap, arith, common_steps, DraftPlan, is_early}
use Rattle.script.proofs.DraftLaws.{volume_added}
use Rattle.script.proofs.drafts.Draft.volume.Goals as goal

pub invariant_of-self-2 : goal.invariant_of-self-2
invariant_of-self-2 c = volume_added _ _ _ c.self.invariant c.in_ok-push.ensures.items
    (ap (λ (d : DraftPlan). is_early d.stage) c.self.view_is ∙ c.requires) c.in_ok-volume.ensures.form
    (rw c.deref.ensures.value at c.in_ok-volume.ensures.new) (grind (arith, common_steps)) (grind (arith, common_steps))
