use Rattle.custody.proofs.Prelude.{◌≡◌, ◌++◌, range}
use Rattle.custody.proofs.rows.release_others.Given as goal

abbrev pub invariant-loop-process : goal.invariant-loop-process
invariant-loop-process l = l.ready.items ≡ l.fn.ready.items ++ range 1 l.process
