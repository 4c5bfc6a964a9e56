use Rattle.volumes.proofs.Drives.{one_drive}
use Rattle.volumes.proofs.Parts.{arith, common_steps, few_with, full_with, its_once, its_rose, keeps_others, length_after_write, parts_with_drive, same_with, sum_grows, sum_rose, told_with}
use Rattle.volumes.proofs.volumes.Volumes.write_page.Goals as goal

pub invariant_of-self : goal.invariant_of-self
invariant_of-self g c = (
  parts_with_drive g.D.Drive.pages _ c.args.v _ c.self.invariant.0 c.index_mut.ensures.value (length_after_write
      c.write_page.result _ _ c.args.r c.args.from.now c.write_page.ensures.ok c.write_page.ensures.err),
  few_with g.D.Drive.plan g.D.Drive.faults _ c.args.v c.write_page.new.self c.self.invariant.1 c.write_page.ensures.few,
  full_with g.D.Drive.pages _ c.args.v c.write_page.new.self c.self.invariant.2 c.write_page.ensures.full,
)

pub returns : goal.returns
returns g c =
    grind (arith, common_steps, one_drive, sum_rose, its_rose, sum_grows, same_with, keeps_others, its_once, told_with)
