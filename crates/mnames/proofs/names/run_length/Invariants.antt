use Rattle.mnames.proofs.PathGrammar.{IsRunSoFar}
use Rattle.mnames.proofs.names.run_length.Given as goal

-- the bytes so far may stand in a name, and are at most 32
abbrev pub invariant-loop-i : goal.invariant-loop-i
invariant-loop-i l = IsRunSoFar l.text l.i
