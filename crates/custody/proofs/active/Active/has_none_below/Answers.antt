use Rattle.custody.proofs.LookLaws.{below_decides}
use Rattle.custody.proofs.active.Active.has_none_below.Goals as goal

pub returns : goal.returns
returns c = below_decides c.self.view_is c.self.invariant c.args.uid c.at-count.ensures
