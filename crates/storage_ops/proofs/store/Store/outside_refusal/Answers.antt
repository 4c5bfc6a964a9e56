use Rattle.storage_ops.proofs.Prelude.{◌∙◌}
use Rattle.storage_ops.proofs.Refusals.{outside_shown}
use Rattle.storage_ops.proofs.store.Store.outside_refusal.Goals as goal

pub returns-clause-shown : goal.returns-clause-shown
returns-clause-shown g c = λ p s h. c.refusal_outside.ensures ∙ outside_shown h c.args.process c.args.reference.now
