use Rattle.custody.proofs.ScanLaws.{nobody_seg_decides}
use Rattle.custody.proofs.tables.Custody.nobody_holds_seg.Goals as goal

pub returns : goal.returns
returns c = nobody_seg_decides c.args.self.now c.args.process c.args.number c.somebody_holds_seg.result
    c.somebody_holds_seg.ensures
