use Rattle.volumes.proofs.Prelude.{ap, false, length, length-set, ◌∙◌}
use Rattle.volumes.proofs.Parts.{parts_with_records}
use Rattle.volumes.proofs.volumes.Volumes.deposit.Goals as goal

pub invariant_of-self : goal.invariant_of-self
invariant_of-self g c = (
  parts_with_records c.args.v _ c.self.invariant.0 c.index_mut.ensures.value
      (ap length c.deposit.ensures.flags ∙ length-set c.index_mut.result.now c.args.r false),
  c.self.invariant.1,
  c.self.invariant.2,
)
