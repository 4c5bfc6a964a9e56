use Rattle.custody.proofs.ScanLaws.{nobody_page_decides}
use Rattle.custody.proofs.tables.Custody.nobody_holds_page.Goals as goal

pub returns : goal.returns
returns c = nobody_page_decides c.args.self.now c.args.frame c.somebody_holds_page.result c.somebody_holds_page.ensures
