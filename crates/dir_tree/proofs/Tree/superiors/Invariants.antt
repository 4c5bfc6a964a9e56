use Rattle.dir_tree.proofs.Prelude.{◌≡◌, ◌++◌, true, above, is_in, shapes}
use Rattle.dir_tree.proofs.Tree.superiors.Given as goal

abbrev pub invariant-loop-superior : goal.invariant-loop-superior
invariant-loop-superior l = record {
  so_far : l.up.items ++ above (shapes l.self.nodes) l.at ≡ above (shapes l.self.nodes) l.uid;
  there : is_in l.self.nodes l.at ≡ true;
}

abbrev pub decreases-loop-superior : goal.decreases-loop-superior
decreases-loop-superior l = l.at
