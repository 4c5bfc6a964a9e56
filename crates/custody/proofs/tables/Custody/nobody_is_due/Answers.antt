use Rattle.custody.proofs.ScanLaws.{none_due_decides}
use Rattle.custody.proofs.tables.Custody.nobody_is_due.Goals as goal

pub returns : goal.returns
returns c = none_due_decides c.args.self.now c.somebody_is_due.result c.somebody_is_due.ensures
