use Rattle.std.proofs.Common.{◌≡◌, ◌≤◌, [], replicate, vec_len, vec_capacity}
use Rattle.trailers.proofs.Trailers.new.Given as goal

abbrev pub invariant-loop-entry : goal.invariant-loop-entry
invariant-loop-entry l = record {
  filled : l.places.items ≡ replicate l._entry [];
  count : vec_len l.places ≡ l._entry;
  within : l._entry ≤ l.fn.entries;
  room : vec_capacity l.places ≡ l.fn.entries;
}
