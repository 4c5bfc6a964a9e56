use Rattle.volumes.proofs.Parts.{arith, common_steps, length_after_withdraw, parts_with_records}
use Rattle.volumes.proofs.volumes.Volumes.withdraw.Goals as goal

pub invariant_of-self : goal.invariant_of-self
invariant_of-self g c = (
  parts_with_records c.args.v _ c.self.invariant.0 c.index_mut.ensures.value
      (length_after_withdraw c.withdraw.result _ _ c.withdraw.ensures.taken c.withdraw.ensures.same),
  c.self.invariant.1,
  c.self.invariant.2,
)

pub returns : goal.returns
returns g c = grind (arith, common_steps)
