use Rattle.storage_ops.proofs.Prelude.{◌∙◌}
use Rattle.storage_ops.proofs.Refusals.{room_found}
use Rattle.storage_ops.proofs.store.Store.room_refusal.Goals as goal

pub returns-in-Ok-clause-shown : goal.returns-in-Ok-clause-shown
returns-in-Ok-clause-shown g c = λ p s h. c.room_in.ensures s.stored h.tree.counts
    ∙ room_found c.self.view_is c.look.ensures.kept c.self.invariant h c.look.ensures.parts c.args.process
    c.args.reference.now c.in-Ok.ensures.ok

pub returns-in-Err-clause-shown : goal.returns-in-Err-clause-shown
returns-in-Err-clause-shown g c = λ p s h. room_found c.self.view_is c.look.ensures.kept
    c.self.invariant h c.look.ensures.parts c.args.process c.args.reference.now c.in-Err.ensures.err
