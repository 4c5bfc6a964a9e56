use Rattle.dir_tree.proofs.Prelude.{◌≡◌, drop, true, walk_from, is_in, shapes}
use Rattle.dir_tree.proofs.Tree.walk.Given as goal

abbrev pub invariant-loop-name : goal.invariant-loop-name
invariant-loop-name l = record {
  so_far : walk_from (shapes l.self.nodes) l.at l.dir (drop l.name-index l.names)
      ≡ walk_from (shapes l.self.nodes) 1 true l.names;
  there : is_in l.self.nodes l.at ≡ true;
}
