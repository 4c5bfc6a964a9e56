use Rattle.schedule.proofs.Prelude.{AreWithin, length, lines_of, onto, orders_from, ◌+◌, ◌≡◌, ◌≤◌}
use Rattle.schedule.proofs.reader.read_lines.Given as goal

-- the lines so far, and those that are left, give what all give
abbrev pub invariant-loop-rest : goal.invariant-loop-rest
invariant-loop-rest l = record {
  reads : onto l.lines.items (orders_from l.processors l.number (lines_of l.rest))
      ≡ orders_from l.processors l.first (lines_of l.bytes);
  within : AreWithin l.processors l.lines.items;
  few : l.number + length l.rest ≤ l.first + length l.bytes;
}

abbrev pub decreases-loop-rest : goal.decreases-loop-rest
decreases-loop-rest l = length l.rest
