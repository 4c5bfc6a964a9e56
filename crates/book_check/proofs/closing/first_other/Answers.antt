use Rattle.book_check.proofs.Prelude.{arith, nat_tests}
use Rattle.book_check.proofs.SameLaws.{due_ends, given_ends}
use Rattle.book_check.proofs.closing.first_other.Goals as goal

pub returns-then-is_empty-clause-other : goal.returns-then-is_empty-clause-other
returns-then-is_empty-clause-other c =
    (due_ends c.args.given.now c.args.due.now c.loop-left.left.now c.loop-left.wanted.now c.loop-left.same
    c.loop-left.invariant.same (grind (arith, nat_tests)) (grind (arith, nat_tests))).0

pub returns-then-is_empty-clause-count : goal.returns-then-is_empty-clause-count
returns-then-is_empty-clause-count c =
    (due_ends c.args.given.now c.args.due.now c.loop-left.left.now c.loop-left.wanted.now c.loop-left.same
    c.loop-left.invariant.same (grind (arith, nat_tests)) (grind (arith, nat_tests))).1

pub returns-else-is_empty-2-clause-other : goal.returns-else-is_empty-2-clause-other
returns-else-is_empty-2-clause-other c =
    (given_ends c.args.given.now c.args.due.now c.loop-left.left.now c.loop-left.wanted.now c.loop-left.same
    c.loop-left.invariant.same (grind (arith, nat_tests)) (grind (arith, nat_tests))).0

pub returns-else-is_empty-2-clause-count : goal.returns-else-is_empty-2-clause-count
returns-else-is_empty-2-clause-count c =
    (given_ends c.args.given.now c.args.due.now c.loop-left.left.now c.loop-left.wanted.now c.loop-left.same
    c.loop-left.invariant.same (grind (arith, nat_tests)) (grind (arith, nat_tests))).1
