use Rattle.reasons.proofs.Prelude.{arith, ◌∙◌, nat_tests, lines_of}
use Rattle.reasons.proofs.PassLaws.{ends_faulty, ends_nil, passes_next, room_there, tables_there}
use Rattle.reasons.proofs.passing.go_over.Goals as goal

pub accept-requires-clause-room : goal.accept-requires-clause-room
accept-requires-clause-room c = room_there _ _ _ _ _ _ c.loop-line.invariant.passed
    (omega (arith, c.loop-line.invariant.fewer, c.requires.few))

pub accept-requires-clause-tables : goal.accept-requires-clause-tables
accept-requires-clause-tables c = tables_there _ _ _ _ _ _ c.loop-line.invariant.passed

pub loop-line-preserved : goal.loop-line-preserved
loop-line-preserved c = record {
  passed = passes_next _ _ _ _ _ _ _ _ _ _ _ _ c.loop-line.invariant.passed c.next_line.ensures.lines (cc)
      c.accept.ensures.one c.in-Ok.ensures.takes c.loop-line.invariant.place c.accept.ensures.script
      c.look.ensures.same c.look.ensures.looks;
  fewer = omega (arith, c.loop-line.invariant.fewer, c.in-Ok.ensures.count, c.next_line.ensures.shorter);
  place = omega (arith, c.loop-line.invariant.place, c.in-Ok.ensures.count);
  script = c.accept.ensures.script ∙ c.loop-line.invariant.script;
  reason = c.look.ensures.same ∙ c.loop-line.invariant.reason;
}

pub returns-in-Err-Broken-clause-ends : goal.returns-in-Err-Broken-clause-ends
returns-in-Err-Broken-clause-ends c = ends_faulty c.loop-line.judge c.accept.new.self (lines_of c.loop-line.rest.now)
    (lines_of c.next_line.result.1.now) c.next_line.result.0.now c.in-Err-Broken.field-0 c.in-Err-Broken.field-0-0
    c.next_line.ensures.lines (cc) c.accept.ensures.one c.in-Err-Broken.ensures.takes c.in-Err-Broken.ensures.same
    c.in-Err-Broken.field-0-is

pub returns-clause-ends : goal.returns-clause-ends
returns-clause-ends c = ends_nil c.loop-line.judge c.loop-line.rest.now (grind (arith, nat_tests))
