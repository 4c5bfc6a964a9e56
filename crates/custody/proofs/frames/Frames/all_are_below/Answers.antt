use Rattle.custody.proofs.CutLaws.{below_decides, none_from}
use Rattle.custody.proofs.frames.Frames.all_are_below.Goals as goal

pub returns-then-has_none_of : goal.returns-then-has_none_of
returns-then-has_none_of c =
    none_from c.args.self.now c.args.uid c.args.pages (c.has_none_of.ensures.0 c.if-has_none_of.true)

pub returns : goal.returns
returns c = below_decides c.args.self.now c.args.uid c.args.pages c.has_from-some.result c.has_from-some.ensures
