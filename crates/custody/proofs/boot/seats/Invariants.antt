use Rattle.custody.proofs.Prelude.{◌≡◌, replicate, offline}
use Rattle.custody.proofs.boot.seats.Given as goal

abbrev pub invariant-loop-cpu : goal.invariant-loop-cpu
invariant-loop-cpu l = l.seats.items ≡ replicate l._cpu offline
