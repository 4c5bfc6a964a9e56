use Rattle.script.proofs.Prelude.{◌∙◌, ap, refl, DraftPlan, is_inside}
use Rattle.script.proofs.DraftLaws.{process_listed}
use Rattle.script.proofs.drafts.Draft.end_process.Goals as goal

pub invariant_of-self-2 : goal.invariant_of-self-2
invariant_of-self-2 c =
    process_listed _ _ _ _ c.self.invariant (ap (λ (d : DraftPlan). is_inside d.stage) c.self.view_is ∙ c.requires)
    c.in_ok-push.ensures c.take-commands.ensures.left (rw (
      c.push_reserved.ensures.items,
      c.in_ok-reserve.ensures.items,
      c.new.ensures,
      c.copied.ensures,
      c.take-commands.ensures.taken,
    ) refl)
