use Rattle.seg_control.proofs.Prelude.{None, replicate, vec_capacity, vec_len, ◌≡◌, ◌≤◌}
use Rattle.seg_control.proofs.links.unknown.Given as goal

abbrev pub invariant-loop-process : goal.invariant-loop-process
invariant-loop-process l = record {
  made : l.known.items ≡ replicate l._process (replicate 256 None);
  count : vec_len l.known ≡ l._process;
  within : l._process ≤ l.fn.processes;
  room : vec_capacity l.known ≡ l.fn.processes;
}
