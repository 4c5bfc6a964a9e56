use Rattle.mnames.proofs.Prelude.{◌≡◌, take}
use Rattle.mnames.proofs.paths.path_of_names.Given as goal

-- the names so far
abbrev pub invariant-loop-name : goal.invariant-loop-name
invariant-loop-name l = l.kept.items ≡ take l.name-index l.names
