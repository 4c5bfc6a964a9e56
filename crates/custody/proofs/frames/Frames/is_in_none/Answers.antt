use Rattle.custody.proofs.CutLaws.{nowhere_decides}
use Rattle.custody.proofs.LookLaws.{page_nowhere}
use Rattle.custody.proofs.frames.Frames.is_in_none.Goals as goal

pub returns-then-count-eq0 : goal.returns-then-count-eq0
returns-then-count-eq0 c = page_nowhere c.self.view_is c.self.invariant c.args.uid c.args.page c.page_number.result
    c.page_number.ensures c.at-count.ensures c.if-count-eq0.true

pub returns : goal.returns
returns c = nowhere_decides c.args.self.now c.args.uid c.args.page c.is_in_some-some.result c.is_in_some-some.ensures
