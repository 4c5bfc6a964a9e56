use Rattle.schedule.proofs.Prelude.{IsAtLine, is_schedule_line, length, ◌+◌, ◌-◌, ◌≤◌}
use Rattle.schedule.proofs.inputs.split_input.Given as goal

-- the lines up to here are passed, and none of them is the line `schedule`
abbrev pub invariant-loop-at : goal.invariant-loop-at
invariant-loop-at l = record {
  passed : IsAtLine is_schedule_line l.bytes l.at l.number;
  within : l.at ≤ length l.bytes;
  few : l.number ≤ l.at + 1;
}

abbrev pub decreases-loop-at : goal.decreases-loop-at
decreases-loop-at l = length l.bytes - l.at
