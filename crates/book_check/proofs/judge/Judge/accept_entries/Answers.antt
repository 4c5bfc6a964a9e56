use Rattle.book_check.proofs.Prelude.{arith, ap, ◌∙◌, ◌+◌, nat_tests, lines_of, Judged}
use Rattle.book_check.proofs.GoingLaws.{room_there, tables_there, reached_next, fault_told, ended_nil, ended_summary}
use Rattle.book_check.proofs.judge.Judge.accept_entries.Goals as goal

pub returns-then-is_summary-clause-ended : goal.returns-then-is_summary-clause-ended
returns-then-is_summary-clause-ended c = ended_summary (lines_of c.loop-line.rest.now)
    (lines_of c.next_line.result.1.now) c.next_line.result.0.now c.next_line.ensures.lines (cc)

pub accept-requires-clause-room : goal.accept-requires-clause-room
accept-requires-clause-room c = room_there c.loop-line.self c.args.first (lines_of c.args.lines.now)
    (lines_of c.loop-line.rest.now)
    c.loop-line.invariant.reached (omega (arith, c.loop-line.invariant.fewer, c.requires.few))

pub accept-requires-clause-tables : goal.accept-requires-clause-tables
accept-requires-clause-tables c = tables_there c.loop-line.self c.args.first (lines_of c.args.lines.now)
    (lines_of c.loop-line.rest.now) c.loop-line.invariant.reached

pub returns-in-Err-clause-refused : goal.returns-in-Err-clause-refused
returns-in-Err-clause-refused c = fault_told c.args.self.now.script c.loop-line.self c.accept.new.self c.args.first
    (c.args.first + c.self.inside.entries) (lines_of c.args.lines.now) (lines_of c.loop-line.rest.now)
    (lines_of c.next_line.result.1.now)
    c.next_line.result.0.now c.in-Err.fault c.at_line.result c.loop-line.invariant.script c.loop-line.invariant.reached
    c.next_line.ensures.lines (cc)
    c.accept.ensures.one c.in-Err.ensures.takes (ap (λ (j : Judged). c.args.first + j.entries) c.self.view_is)
    c.at_line.ensures

pub loop-line-preserved : goal.loop-line-preserved
loop-line-preserved c = record {
  reached = reached_next c.loop-line.self c.accept.new.self c.args.first (lines_of c.args.lines.now)
      (lines_of c.loop-line.rest.now)
      (lines_of c.next_line.result.1.now) c.next_line.result.0.now c.loop-line.invariant.reached
      c.next_line.ensures.lines (cc) c.accept.ensures.one c.in-Ok.ensures.takes;
  fewer = omega (arith, c.loop-line.invariant.fewer, c.in-Ok.ensures.count, c.next_line.ensures.shorter);
  script = c.accept.ensures.script ∙ c.loop-line.invariant.script;
}

pub returns-clause-ended : goal.returns-clause-ended
returns-clause-ended c = ended_nil c.loop-line.rest.now (grind (arith, nat_tests))
