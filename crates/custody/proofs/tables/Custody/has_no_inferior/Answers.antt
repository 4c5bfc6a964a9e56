use Rattle.custody.proofs.ScanLaws.{inferiors_decide}
use Rattle.custody.proofs.tables.Custody.has_no_inferior.Goals as goal

pub returns : goal.returns
returns c = λ s nodes. inferiors_decide c.args.self.now s c.args.uid c.has_none_below.result
    (λ i. (c.self.view_is i).active) nodes c.has_none_below.ensures
