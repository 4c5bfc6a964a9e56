use Rattle.storage_ops.proofs.Prelude.{◌∙◌}
use Rattle.storage_ops.proofs.Refusals.{reference_found}
use Rattle.storage_ops.proofs.store.Store.reference_refusal.Goals as goal

pub returns-in-Ok : goal.returns-in-Ok
returns-in-Ok g c = λ p s h. c.room_in.ensures s.stored h.tree.counts
    ∙ reference_found c.self.view_is c.look.ensures.kept c.self.invariant h c.look.ensures.parts c.args.process
    c.args.reference.now c.in-Ok.ensures.ok

pub returns-in-Err : goal.returns-in-Err
returns-in-Err g c = λ p s h. reference_found c.self.view_is c.look.ensures.kept
    c.self.invariant h c.look.ensures.parts c.args.process c.args.reference.now c.in-Err.ensures.err
