use Rattle.active_segs.proofs.Prelude.{Null, replicate, vec_capacity, vec_len, ◌++◌, ◌+◌, ◌≡◌, ◌≤◌}
use Rattle.active_segs.proofs.pools.add_tables.Given as goal

abbrev pub invariant-loop-table : goal.invariant-loop-table
invariant-loop-table l = record {
  made : l.tables.items ≡ l.fn.tables.items ++ replicate l._table (replicate l.fn.pages Null);
  count : vec_len l.tables ≡ vec_len l.fn.tables + l._table;
  within : l._table ≤ l.fn.count;
  room : vec_capacity l.tables ≡ vec_capacity l.fn.tables;
}
