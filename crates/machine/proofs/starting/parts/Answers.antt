use Rattle.machine.proofs.Prelude.{◌<◌, ap, arith, length, common_steps}
use Rattle.machine.proofs.FirstParts.{part_told, parts_none}
use Rattle.machine.proofs.starting.parts.Goals.{After-len}
use Rattle.machine.proofs.starting.parts.Goals as goal

-- the drive's line is there
within : (g : _) (c : After-len g) → c.len.result < length c.args.lines.now
within g c = grind (arith, common_steps)

pub part-part-requires : goal.part-part-requires
part-part-requires g c = within g (goal.at.part-part-requires g c).After-len

pub loop-drive-preserved : goal.loop-drive-preserved
loop-drive-preserved g c = (
  part_told c.args.lines.now c.loop-drive.yielded c.in-Some.drive c.part-part.result c.loop-drive.parts.items _
      c.len.result c.loop-drive.invariant.0 (grind (arith, common_steps))
      (within g (goal.at.loop-drive-preserved g c).After-len) c.part-part.ensures c.in_ok-add.ensures,
  grind (arith, common_steps),
  grind (arith, common_steps),
)

pub loop-drive-init : goal.loop-drive-init
loop-drive-init g c = (
  cc (parts_none c.args.lines.now),
  ap length c.new-parts.ensures.items,
  grind (arith, common_steps),
)
