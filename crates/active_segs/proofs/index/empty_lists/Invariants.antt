use Rattle.active_segs.proofs.Prelude.{empty_list, replicate, vec_capacity, vec_len, ◌≡◌, ◌≤◌}
use Rattle.active_segs.proofs.index.empty_lists.Given as goal

abbrev pub invariant-loop-list : goal.invariant-loop-list
invariant-loop-list l = record {
  made : l.lists.items ≡ replicate l._list (empty_list l.fn.room);
  count : vec_len l.lists ≡ l._list;
  within : l._list ≤ 256;
  room : vec_capacity l.lists ≡ 256;
}
