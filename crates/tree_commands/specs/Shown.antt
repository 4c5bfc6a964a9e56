-- The flat stores that the tree with its accounts shows, and what tree commands do to it (Bensoussan, Clingen and Daley
-- 1972; Organick 1972).
use Rattle.std.specs.Prelude.{◌≡◌, ℕ, ℤ, Bool, is_some, List, Option, None, Some, Result, Ok}
use Rattle.book.specs.declared.replies.Reply.{Reply}
use Rattle.tree_model.specs.Access.{Row}
use Rattle.tree_model.specs.Tree.{Node, node_in, quota_in}
use Rattle.dir_tree.specs.declared.node.Node.{Node as Branch}
use Rattle.dir_tree.specs.Nodes.{as_term}
use Rattle.accounts.specs.Maps.{AccountMaps, Changes, Counts, with_row_in}
use Rattle.flat_model.specs.Branches.{directory_at, segment_at}
use Rattle.flat_model.specs.Rights.{nodes_moved}
use Rattle.flat_model.specs.Store.{Store}

-- The flat store has these nodes and this next uid, and the accounts count its stored pages.
pub record ShowsTree (s : Store) (a : AccountMaps) : Type 0 where
  pub nodes : s.nodes ≡ a.nodes
  pub next : s.next ≡ a.next
  pub counts : Counts a s.stored

-- ---- nodes

-- a node is in the tree
abbrev pub is_there : List Node → ℕ → Bool
is_there nodes u = is_some (node_in nodes u)

-- the length of a node, in pages; 0 where it isn't there
abbrev pub pages_of : Option Node → ℕ
pages_of None = 0
pages_of (Some n) = n.pages

abbrev pub pages_in : List Node → ℕ → ℕ
pages_in nodes u = pages_of (node_in nodes u)

-- a path leads to this node
abbrev pub IsFound : List Node → Result Node Reply → Branch → Type 0
IsFound nodes found n = found ≡ Ok (as_term (quota_in nodes) n)

-- a node of the directory tree is in the tree
abbrev pub IsThere : List Node → Branch → Type 0
IsThere nodes n = node_in nodes n.uid ≡ Some (as_term (quota_in nodes) n)

-- ---- changes

-- a row of the access control list of the segment that a path leads to is set
pub record HasRowSet (old new : AccountMaps) (path : List (List ℕ)) (row : Row) : Type 0 where
  pub node : Node
  pub found : segment_at old.nodes path ≡ Ok node
  pub effect : Changes old new (with_row_in old.nodes node.uid row)

-- an amount of quota is moved between the directory that a path leads to and its superior
pub record HasMoved (old new : AccountMaps) (path : List (List ℕ)) (amount : ℤ) : Type 0 where
  pub node : Node
  pub found : directory_at old.nodes path ≡ Ok node
  pub effect : Changes old new (nodes_moved old.nodes node.uid amount)
