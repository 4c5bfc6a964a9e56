use Rattle.custody.proofs.LookLaws.{frames_only_in_decide}
use Rattle.custody.proofs.frames.Frames.all_go_in.Goals as goal

pub returns : goal.returns
returns c = frames_only_in_decide c.self.view_is c.self.invariant c.args.frame c.going-all.ensures
    (rw (← c.at.ensures) c.going_count-here.ensures)
