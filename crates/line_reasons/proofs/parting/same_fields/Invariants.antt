use Rattle.line_reasons.proofs.Prelude.{◌≡◌, ◌≤◌, ◌+◌, length, pieces, same_front}
use Rattle.line_reasons.proofs.parting.same_fields.Given as goal

-- the fields so far are the same
abbrev pub invariant-loop-field : goal.invariant-loop-field
invariant-loop-field l = record {
  same :
      same_front (pieces l.line) (pieces l.other) ≡ l.same + same_front (pieces l.left) (pieces l.wanted);
  fewer : l.same + length l.left ≤ length l.line;
}

abbrev pub decreases-loop-field : goal.decreases-loop-field
decreases-loop-field l = length l.left
