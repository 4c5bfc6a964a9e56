use Rattle.volumes.proofs.Drives.{ap, one_drive}
use Rattle.volumes.proofs.Parts.{arith, common_steps, drives_within, few_with, full_of_drive, full_read, full_with, its_once, its_rose, keeps_others, length, parts_with_drive, same_with, sum_grows, sum_rose, told_with}
use Rattle.volumes.proofs.volumes.Volumes.read_page.Goals as goal

pub invariant_of-self : goal.invariant_of-self
invariant_of-self g c = (
  parts_with_drive g.D.Drive.pages _ c.args.v _ c.self.invariant.0 c.index_mut.ensures.value
      (ap length c.read_page.ensures.pages),
  few_with g.D.Drive.plan g.D.Drive.faults _ c.args.v c.read_page.new.self c.self.invariant.1 c.read_page.ensures.few,
  full_with g.D.Drive.pages _ c.args.v c.read_page.new.self c.self.invariant.2
      (full_of_drive g.D.Drive.pages _ c.args.v _ c.self.invariant.2
      (drives_within _ _ _ _ c.self.view_is c.requires.volume) c.index_mut.ensures.value c.read_page.ensures.pages),
)

pub returns : goal.returns
returns g c =
    grind (
      arith,
      common_steps,
      one_drive,
      sum_rose,
      its_rose,
      sum_grows,
      same_with,
      keeps_others,
      its_once,
      told_with,
      full_read,
    )
