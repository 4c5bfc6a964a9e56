use Rattle.script.proofs.Prelude.{arith, front_closes}
use Rattle.script.proofs.lines.line_from.Goals as goal

pub returns-then-bytes-i-eq10-clause-closes : goal.returns-then-bytes-i-eq10-clause-closes
returns-then-bytes-i-eq10-clause-closes c = λ some.
    front_closes c.args.bytes.now c.loop-i.i c.loop-i.invariant.no_feed (omega arith) c.if-bytes-i-eq10.true
