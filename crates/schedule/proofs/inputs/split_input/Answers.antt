use Rattle.schedule.proofs.Prelude.{arith, end_after, end_before, end_first, end_found, is_schedule_line, line_passed, rules, stop_after, stop_before, stop_first, stop_found}
use Rattle.schedule.proofs.inputs.split_input.Goals as goal

pub returns-then-is_schedule-clause-script : goal.returns-then-is_schedule-clause-script
returns-then-is_schedule-clause-script c = stop_before is_schedule_line c.args.bytes.now c.next_line.result.0.now
    c.next_line.result.1.now c.loop-at.at c.loop-at.number
    (omega arith) c.next_line.ensures.lines c.loop-at.invariant.passed (cc)

pub returns-then-is_schedule-clause-schedule : goal.returns-then-is_schedule-clause-schedule
returns-then-is_schedule-clause-schedule c = stop_after is_schedule_line c.args.bytes.now c.next_line.result.0.now
    c.next_line.result.1.now c.loop-at.at c.loop-at.number
    (omega arith) c.next_line.ensures.lines c.loop-at.invariant.passed (cc)

pub returns-then-is_schedule-clause-first : goal.returns-then-is_schedule-clause-first
returns-then-is_schedule-clause-first c = stop_first is_schedule_line c.args.bytes.now c.next_line.result.0.now
    c.next_line.result.1.now c.loop-at.at c.loop-at.number
    (omega arith) c.next_line.ensures.lines c.loop-at.invariant.passed (cc)

pub returns-then-is_schedule-clause-found : goal.returns-then-is_schedule-clause-found
returns-then-is_schedule-clause-found c = stop_found is_schedule_line c.args.bytes.now c.next_line.result.0.now
    c.next_line.result.1.now c.loop-at.at c.loop-at.number
    (omega arith) c.next_line.ensures.lines c.loop-at.invariant.passed (cc)

pub loop-at-preserved : goal.loop-at-preserved
loop-at-preserved c = record {
  passed = line_passed is_schedule_line c.args.bytes.now c.next_line.result.0.now
      c.next_line.result.1.now c.loop-at.at c.loop-at.number (omega arith) c.next_line.ensures.lines
      c.loop-at.invariant.passed c.next_line.ensures.rest c.next_line.ensures.shorter c.next_line.ensures.closes (cc);
  within = search rules;
  few = search rules;
}

pub returns-clause-script : goal.returns-clause-script
returns-clause-script c = end_before is_schedule_line c.args.bytes.now c.loop-at.at c.loop-at.number (omega arith)
    c.loop-at.invariant.passed

pub returns-clause-schedule : goal.returns-clause-schedule
returns-clause-schedule c = end_after is_schedule_line c.args.bytes.now c.loop-at.at c.loop-at.number (omega arith)
    c.loop-at.invariant.passed

pub returns-clause-first : goal.returns-clause-first
returns-clause-first c = end_first is_schedule_line c.args.bytes.now c.loop-at.at c.loop-at.number (omega arith)
    c.loop-at.invariant.passed

pub returns-clause-found : goal.returns-clause-found
returns-clause-found c = end_found is_schedule_line c.args.bytes.now c.loop-at.at c.loop-at.number (omega arith)
    c.loop-at.invariant.passed
