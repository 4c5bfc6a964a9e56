use Rattle.drill.proofs.Adds.{arith, done_count, ◌+◌}
use Rattle.drill.proofs.worker.work.Goals as goal

pub try_add-requires-clause-few : goal.try_add-requires-clause-few
try_add-requires-clause-few g c =
    let w = c.loop-i.worker in
    let count = done_count c.args.size.frames (c.args.size.seed + w.cpu) c.loop-i.i w.pass.walker.made
    c.loop-i.invariant.4 in
    omega (arith, count, c.requires.adds, c.loop-i.invariant.6)
