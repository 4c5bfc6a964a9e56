-- The nodes without what may change: no change of a length, a home or an access control list touches it, and what holds
-- of every tree speaks of it alone.
use Rattle.std.specs.Prelude.{List, [], map}
use Rattle.tree_model.specs.Tree.{Node as Term}
use Rattle.dir_tree.specs.declared.node.Node.{Node}

abbrev pub shape : Node → Term
shape n = record {
  uid = n.uid;
  superior = n.superior;
  name = n.name;
  directory = n.dir;
  volume = 0;
  pages = 0;
  quota =
      0;
  rows = [];
}

abbrev pub shapes : List Node → List Term
shapes nodes = map shape nodes
