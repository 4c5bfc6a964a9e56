use Rattle.seg_control.proofs.Prelude.{length, records_in, table_for, take, vtoc_entry as entry_at, ◌≡◌}
use Rattle.seg_control.proofs.activating.load.Given as goal

abbrev pub invariant-loop-p : goal.invariant-loop-p
invariant-loop-p l = record {
  filled : take l.p l.table ≡ table_for (records_in (entry_at l.vtoc l.entry)) l.p;
  long : length l.table ≡ length l.fn.table;
}
