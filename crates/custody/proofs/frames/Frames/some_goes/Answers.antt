use Rattle.custody.proofs.LookLaws.{frames_go_decide}
use Rattle.custody.proofs.frames.Frames.some_goes.Goals as goal

pub returns : goal.returns
returns c = frames_go_decide c.self.view_is c.self.invariant c.going-count.ensures
