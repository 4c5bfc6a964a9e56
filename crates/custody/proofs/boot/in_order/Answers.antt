use Rattle.custody.proofs.Prelude.{rules}
use Rattle.custody.proofs.BootLaws.{range_more}
use Rattle.custody.proofs.boot.in_order.Goals as goal

pub loop-process-preserved : goal.loop-process-preserved
loop-process-preserved c = range_more c.loop-process.process c.loop-process.ready.items c.push.new.self.items
    c.loop-process.invariant (search rules)
