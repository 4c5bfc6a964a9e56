use Rattle.book_check.proofs.Prelude.{rules, arith, is_book, end_after, end_before, end_first, line_passed, stop_after, stop_before, stop_first}
use Rattle.book_check.proofs.inputs.split_input.Goals as goal

pub returns-then-is_book-clause-script : goal.returns-then-is_book-clause-script
returns-then-is_book-clause-script c = stop_before is_book c.args.bytes.now c.next_line.result.0.now
    c.next_line.result.1.now c.loop-at.at c.loop-at.number
    (omega arith) c.next_line.ensures.lines c.loop-at.invariant.passed (cc)

pub returns-then-is_book-clause-listing : goal.returns-then-is_book-clause-listing
returns-then-is_book-clause-listing c = stop_after is_book c.args.bytes.now c.next_line.result.0.now
    c.next_line.result.1.now c.loop-at.at c.loop-at.number
    (omega arith) c.next_line.ensures.lines c.loop-at.invariant.passed (cc)

pub returns-then-is_book-clause-first : goal.returns-then-is_book-clause-first
returns-then-is_book-clause-first c = stop_first is_book c.args.bytes.now c.next_line.result.0.now
    c.next_line.result.1.now c.loop-at.at c.loop-at.number
    (omega arith) c.next_line.ensures.lines c.loop-at.invariant.passed (cc)

pub loop-at-preserved : goal.loop-at-preserved
loop-at-preserved c = record {
  passed = line_passed is_book c.args.bytes.now c.next_line.result.0.now c.next_line.result.1.now c.loop-at.at
      c.loop-at.number (omega arith)
      c.next_line.ensures.lines c.loop-at.invariant.passed c.next_line.ensures.rest c.next_line.ensures.shorter
      c.next_line.ensures.closes (cc);
  within = search rules;
  few = search rules;
}

pub returns-clause-script : goal.returns-clause-script
returns-clause-script c = end_before is_book c.args.bytes.now c.loop-at.at c.loop-at.number (omega arith)
    c.loop-at.invariant.passed

pub returns-clause-listing : goal.returns-clause-listing
returns-clause-listing c = end_after is_book c.args.bytes.now c.loop-at.at c.loop-at.number (omega arith)
    c.loop-at.invariant.passed

pub returns-clause-first : goal.returns-clause-first
returns-clause-first c = end_first is_book c.args.bytes.now c.loop-at.at c.loop-at.number (omega arith)
    c.loop-at.invariant.passed
