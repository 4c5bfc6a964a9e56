use Rattle.custody.proofs.ScanLaws.{page_goes_decides}
use Rattle.custody.proofs.tables.Custody.a_page_goes.Goals as goal

pub returns : goal.returns
returns c = page_goes_decides c.args.self.now c.some_goes.result (λ i. (c.self.view_is i).frames) c.some_goes.ensures
