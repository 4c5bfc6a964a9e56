use Rattle.page_control.proofs.Moved.{arith, part_end}
use Rattle.page_control.proofs.pages.rename.Goals as goal

pub returns : goal.returns
returns c = part_end c.loop-p.invariant (omega arith)
