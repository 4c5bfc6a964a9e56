use Rattle.line_reasons.proofs.Prelude.{◌≡◌, ◌≤◌, ◌+◌, length, pieces, reason_from, due}
use Rattle.line_reasons.proofs.entry_reasons.field_fault.Given as goal

abbrev pub invariant-loop-field : goal.invariant-loop-field
invariant-loop-field l = record {
  same : reason_from l.n l.due (pieces l.rest) ≡ reason_from 1 due.First (pieces l.line);
  within : l.n + length l.rest ≤ length l.line + 1;
}

abbrev pub decreases-loop-field : goal.decreases-loop-field
decreases-loop-field l = length l.rest
