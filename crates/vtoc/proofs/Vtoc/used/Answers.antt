use Rattle.vtoc.proofs.Table.{count_same}
use Rattle.vtoc.proofs.Vtoc.used.Goals as goal

pub returns : goal.returns
returns c = cc (count_same c.self.invariant c.self.view_is)
