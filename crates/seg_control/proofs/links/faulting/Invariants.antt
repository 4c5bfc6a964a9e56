use Rattle.seg_control.proofs.Prelude.{all_faults, replicate, vec_capacity, vec_len, ◌≡◌, ◌≤◌}
use Rattle.seg_control.proofs.links.faulting.Given as goal

abbrev pub invariant-loop-process : goal.invariant-loop-process
invariant-loop-process l = record {
  made : l.descriptors.items ≡ replicate l._process all_faults;
  count : vec_len l.descriptors ≡ l._process;
  within : l._process ≤ l.fn.processes;
  room : vec_capacity l.descriptors ≡ l.fn.processes;
}
