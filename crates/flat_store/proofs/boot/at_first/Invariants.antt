use Rattle.flat_store.proofs.Prelude.{◌≡◌, replicate, None, at_first}
use Rattle.flat_store.proofs.boot.at_first.Given as goal

abbrev pub invariant-loop-process : goal.invariant-loop-process
invariant-loop-process l = record {
  known : l.known.items ≡ replicate l._process (replicate 256 None);
  places : l.places.items ≡ replicate l._process at_first;
}
