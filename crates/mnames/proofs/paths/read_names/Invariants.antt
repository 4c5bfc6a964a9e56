use Rattle.mnames.proofs.Prelude.{length}
use Rattle.mnames.proofs.PathGrammar.{HasRead}
use Rattle.mnames.proofs.paths.read_names.Given as goal

-- the names so far are those of the text before what is left
abbrev pub invariant-loop-after : goal.invariant-loop-after
invariant-loop-after l = HasRead l.text l.names.items l.rest

abbrev pub decreases-loop-after : goal.decreases-loop-after
decreases-loop-after l = length l.rest
