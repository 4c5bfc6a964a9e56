use Rattle.script.proofs.Prelude.{◌≡◌, drop, number_from}
use Rattle.script.proofs.volumes.number_of.Given as goal

-- no volume so far has the name
abbrev pub invariant-loop-i : goal.invariant-loop-i
invariant-loop-i l = number_from l.i (drop l.i l.volumes) l.name ≡ number_from 0 l.volumes l.name
