use Rattle.custody.proofs.LookLaws.{row_goes}
use Rattle.custody.proofs.descriptors.Descriptors.some_goes.Goals as goal

pub returns : goal.returns
returns c = row_goes c.self.view_is c.self.invariant c.going-count.ensures
