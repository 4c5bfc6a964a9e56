use Rattle.active_segs.proofs.Prelude.{false, length, map, replicate, take, vec_capacity, vec_len, ◌≡◌}
use Rattle.active_segs.proofs.pools.no_marks.Given as goal

abbrev pub invariant-loop-size : goal.invariant-loop-size
invariant-loop-size l = record {
  made : l.used.items ≡ map (λ size. replicate size false) (take l.size-index l.sizes);
  count : vec_len l.used ≡ l.size-index;
  room : vec_capacity l.used ≡ length l.sizes;
}
