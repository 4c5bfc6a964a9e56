use Rattle.custody.proofs.ScanLaws.{deactivates, stays_active}
use Rattle.custody.proofs.tables.Custody.may_deactivate.Goals as goal

pub returns-then-is_unused : goal.returns-then-is_unused
returns-then-is_unused c =
    λ s nodes. deactivates s c.args.self.now c.args.uid c.is_unused.result c.has_no_inferior.result c.is_unused.ensures
    c.if-is_unused.true (c.has_no_inferior.ensures s nodes)

pub returns-else-is_unused : goal.returns-else-is_unused
returns-else-is_unused c = λ s nodes. stays_active s c.args.self.now c.args.uid c.is_unused.result c.is_unused.ensures
    c.if-is_unused.false
