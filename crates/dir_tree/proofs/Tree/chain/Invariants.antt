use Rattle.dir_tree.proofs.Prelude.{◌≡◌, ◌∷◌, take}
use Rattle.dir_tree.proofs.Tree.chain.Given as goal

abbrev pub invariant-loop-directory : goal.invariant-loop-directory
invariant-loop-directory l = l.chain.items ≡ l.uid ∷ take l.directory-index l.directory-items
