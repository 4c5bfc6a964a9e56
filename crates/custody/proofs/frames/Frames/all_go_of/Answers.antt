use Rattle.custody.proofs.LookLaws.{frames_only_of_decide}
use Rattle.custody.proofs.frames.Frames.all_go_of.Goals as goal

pub returns : goal.returns
returns c = frames_only_of_decide c.self.view_is c.self.invariant c.args.uid c.going_of-count.ensures
    c.going-all.ensures
