use Rattle.custody.proofs.LookLaws.{started_decides}
use Rattle.custody.proofs.frames.Frames.has_none_started.Goals as goal

pub returns : goal.returns
returns c = started_decides c.self.view_is c.self.invariant c.args.uid c.at-count.ensures
