use Rattle.line_reasons.proofs.Prelude.{arith, nat_tests, lines_of, same_front}
use Rattle.line_reasons.proofs.FrontLaws.{front_no_due, front_no_left}
use Rattle.line_reasons.proofs.parting.parting.Goals as goal

pub returns-then-is_empty-clause-same : goal.returns-then-is_empty-clause-same
returns-then-is_empty-clause-same c =
    front_no_due (same_front (lines_of c.args.given.now) (lines_of c.args.due.now)) c.loop-left.same
    c.loop-left.left.now c.loop-left.wanted.now c.loop-left.invariant.same (grind (arith, nat_tests))

pub returns-clause-same : goal.returns-clause-same
returns-clause-same c =
    front_no_left (same_front (lines_of c.args.given.now) (lines_of c.args.due.now)) c.loop-left.same
    c.loop-left.left.now c.loop-left.wanted.now c.loop-left.invariant.same (grind (arith, nat_tests))
