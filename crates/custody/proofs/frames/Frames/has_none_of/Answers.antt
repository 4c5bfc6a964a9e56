use Rattle.custody.proofs.LookLaws.{frames_of_decide}
use Rattle.custody.proofs.frames.Frames.has_none_of.Goals as goal

pub returns : goal.returns
returns c = frames_of_decide c.self.view_is c.self.invariant c.args.uid c.of-count.ensures
