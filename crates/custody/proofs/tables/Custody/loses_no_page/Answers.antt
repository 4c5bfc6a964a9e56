use Rattle.custody.proofs.CutLaws.{loses_decides}
use Rattle.custody.proofs.tables.Custody.loses_no_page.Goals as goal

pub returns : goal.returns
returns c = λ p s shown. loses_decides s c.args.self.now c.args.uid c.args.words c.kept_pages-kept.result
    c.self.inside.frames c.all_are_below.result
    (λ i. (c.self.view_is i).frames) (c.kept_pages-kept.ensures p s shown) c.all_are_below.ensures
