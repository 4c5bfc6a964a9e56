use Rattle.script.proofs.Prelude.{◌∙◌, ap, DraftPlan, has_volume, is_head}
use Rattle.script.proofs.DraftLaws.{bulk_added}
use Rattle.script.proofs.drafts.Draft.bulk.Goals as goal

pub invariant_of-self-2 : goal.invariant_of-self-2
invariant_of-self-2 c =
    bulk_added _ _ (record { volume = c.in_ok-volume-2.volume; places = c.in_ok-places.places }) c.self.invariant
    c.in_ok-push.ensures.items (ap (λ (d : DraftPlan). is_head d.stage) c.self.view_is ∙ c.requires.head)
    (ap (λ (d : DraftPlan). has_volume d.stage) c.self.view_is ∙ c.requires.volume)
    (rw c.deref.ensures.value at c.in_ok-volume-2.ensures.given) c.in_ok-places.ensures.at_least
    c.in_ok-places.ensures.at_most (cc)
