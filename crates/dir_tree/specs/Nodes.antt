-- What a contract sees of a directory tree: its nodes, the newest first, and the next uid.
use Rattle.std.specs.Prelude.{ℕ, ◌+◌, ◌==◌, Bool, true, false, ◌&&◌, not, if◌then◌else◌, nat_le, List, [], ◌∷◌, length, map, reverse, Option, Some, None, Result, Ok, Err, is_some, codes}
use Rattle.std.specs.List.{find, filter, list_any}
use Rattle.mnames.specs.declared.modes.Mode.TheVariants as mode
use Rattle.mnames.specs.declared.principals.Who.{Who}
use Rattle.tree_model.specs.Access.{Row}
use Rattle.tree_model.specs.Tree.{Node as Term, Walk, LeadsTo, Missing, InSegment, above, branch_in, is_inferior}
use Rattle.dir_tree.specs.declared.node.Node.{Node}
use Rattle.dir_tree.specs.declared.node.NewBranch.{NewBranch}
use Rattle.dir_tree.specs.declared.node.NewNode.{NewNode}
use Rattle.dir_tree.specs.declared.node.PathFault.{PathFault}
use Rattle.dir_tree.specs.declared.node.PathFault.TheVariants as path_fault
use Rattle.dir_tree.specs.declared.node.AddFault.{AddFault}
use Rattle.dir_tree.specs.declared.node.AddFault.TheVariants as add_fault

pub record Branches : Type 0 where
  pub nodes : List Node
  pub next : ℕ

-- the node as all of storage speaks of it, where each directory has the quota that this function says: the tree
-- keeps none
abbrev pub as_term : (ℕ → ℕ) → Node → Term
as_term quota n = record {
  uid = n.uid;
  superior = n.superior;
  name = n.name;
  directory = n.dir;
  volume = n.volume;
  pages = n.length;
  quota = quota n.uid;
  rows = n.acl;
}

abbrev pub with_quotas : (ℕ → ℕ) → List Node → List Term
with_quotas quota nodes = map (as_term quota) nodes

-- the node of a uid
abbrev pub node_of : List Node → ℕ → Option Node
node_of nodes u = find (λ n. n.uid == u) nodes

abbrev pub is_in : List Node → ℕ → Bool
is_in nodes u = is_some (node_of nodes u)

abbrev pub is_directory : List Node → ℕ → Bool
is_directory nodes u = a_directory (node_of nodes u)
  where
    a_directory : Option Node → Bool
    a_directory None = false
    a_directory (Some n) = n.dir

abbrev pub is_segment : List Node → ℕ → Bool
is_segment nodes u = a_segment (node_of nodes u)
  where
    a_segment : Option Node → Bool
    a_segment None = false
    a_segment (Some n) = not n.dir

-- the root alone
abbrev pub root_node : ℕ → ℕ → Node
root_node volume entry = record {
  uid = 1;
  superior = None;
  name = codes "root";
  dir = true;
  volume = volume;
  entry =
      entry;
  length = 0;
  acl = [];
}

abbrev pub root_alone : ℕ → ℕ → Branches
root_alone volume entry = record { nodes = root_node volume entry ∷ []; next = 2 }

-- what a path leads to, or why it doesn't
abbrev pub path_answer : Walk → Result ℕ PathFault
path_answer (LeadsTo u) = Ok u
path_answer Missing = Err path_fault.NoPath
path_answer InSegment = Err path_fault.NotDir

-- Why a branch of this name can't be added in a directory, if it can't: the name is there; a directory would lie
-- below eight others and the root; there are 4096 branches.
abbrev pub add_fault_of : List Term → ℕ → List ℕ → Bool → Option AddFault
add_fault_of nodes superior name dir =
    if is_some (branch_in nodes superior name) then Some add_fault.Exists
    else if dir && nat_le 8 (length (above nodes superior)) then Some add_fault.Deep
    else if nat_le 4097 (length nodes) then Some add_fault.Room
    else None

-- a value, unless there is a fault
abbrev pub unless : {E A : Type 0} → Option E → A → Result A E
unless None x = Ok x
unless (Some e) x = Err e

-- the rows of a new branch: its maker may read and write it
abbrev pub maker_rows : Option Who → List Row
maker_rows None = []
maker_rows (Some who) = record { person = Some who.person; project = Some who.project; mode = mode.Both } ∷ []

-- what a new branch is to be, with its rows
abbrev pub as_node : NewBranch → NewNode
as_node new = record {
  name = new.name;
  dir = new.dir;
  volume = new.volume;
  entry = new.entry;
  length = new.length;
  acl = maker_rows new.maker;
}

-- the node of a new branch of a directory
abbrev pub node_of_new : ℕ → ℕ → NewNode → Node
node_of_new uid superior new = record {
  uid = uid;
  superior = Some superior;
  name = new.name;
  dir = new.dir;
  volume = new.volume;
  entry = new.entry;
  length = new.length;
  acl = new.acl;
}

-- the tree with a new branch, which gets the next uid
abbrev pub added : Branches → ℕ → NewNode → Branches
added t superior new = record { nodes = node_of_new t.next superior new ∷ t.nodes; next = t.next + 1 }

-- whether a node has an inferior
abbrev pub has_inferior : List Term → ℕ → Bool
has_inferior nodes u = list_any (is_inferior u) nodes

-- the nodes without that of a uid
abbrev pub without : ℕ → List Node → List Node
without u nodes = filter (λ n. not (n.uid == u)) nodes

abbrev pub removed : Branches → ℕ → Branches
removed t u = record { nodes = without u t.nodes; next = t.next }

-- the nodes with that of a uid changed
abbrev pub with_changed : ℕ → (Node → Node) → List Node → List Node
with_changed u change nodes = map (λ n. if n.uid == u then change n else n) nodes

abbrev pub with_length : Branches → ℕ → ℕ → Branches
with_length t u pages = record { nodes = with_changed u (λ n. record n { length = pages }) t.nodes; next = t.next }

abbrev pub with_home : Branches → ℕ → ℕ → ℕ → Branches
with_home t u volume entry = record {
  nodes = with_changed u (λ n. record n { volume = volume; entry = entry })
      t.nodes;
  next = t.next;
}

-- the access control list of a segment
abbrev pub acl_of : List Node → ℕ → List Row
acl_of nodes u = the_acl (node_of nodes u)
  where
    the_acl : Option Node → List Row
    the_acl None = []
    the_acl (Some n) = n.acl

abbrev pub with_acl : Branches → ℕ → List Row → Branches
with_acl t u acl = record { nodes = with_changed u (λ n. record n { acl = acl }) t.nodes; next = t.next }

-- the directories from the root down to a node, and the node
abbrev pub chain_of : List Term → ℕ → List ℕ
chain_of nodes u = reverse (u ∷ above nodes u)
