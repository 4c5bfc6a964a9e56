use Rattle.custody.proofs.LookLaws.{row_elsewhere}
use Rattle.custody.proofs.descriptors.Descriptors.some_goes_but_of.Goals as goal

pub returns : goal.returns
returns c = row_elsewhere c.self.view_is c.self.invariant c.args.uid c.going_of-count.ensures c.going-all.ensures
