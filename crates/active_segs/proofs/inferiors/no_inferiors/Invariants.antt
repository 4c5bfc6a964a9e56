use Rattle.active_segs.proofs.Prelude.{replicate, true, vec_capacity, vec_len, ◌≡◌, ◌≤◌}
use Rattle.active_segs.proofs.inferiors.no_inferiors.Given as goal

abbrev pub invariant-loop-place : goal.invariant-loop-place
invariant-loop-place l = record {
  made : l.maps.items ≡ replicate l._place (replicate l.fn.places true);
  count : vec_len l.maps ≡ l._place;
  within : l._place ≤ l.fn.places;
  room : vec_capacity l.maps ≡ l.fn.places;
}
