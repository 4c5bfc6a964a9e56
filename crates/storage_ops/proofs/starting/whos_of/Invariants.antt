use Rattle.storage_ops.proofs.Prelude.{◌≡◌, map, take}
use Rattle.storage_ops.proofs.starting.whos_of.Given as goal

abbrev pub invariant-loop-process : goal.invariant-loop-process
invariant-loop-process l = l.whos.items ≡ map (λ x. x.who) (take l.process l.fn.script.processes)
