use Rattle.runner.proofs.Prelude.{◌≡◌, store_after, uses_of}
use Rattle.runner.proofs.summing.uses.Given as goal

-- those of the volumes gone over
abbrev pub invariant-loop-v : goal.invariant-loop-v
invariant-loop-v l = l.uses.items ≡ uses_of (store_after l.machine.state.plan l.machine.state.entries) l.v
