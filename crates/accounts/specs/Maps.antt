-- What a contract sees of the directory tree with its accounts: the nodes with their quotas, the newest first, the VTOC
-- entry of each, the next uid, and how many stored pages each segment has (Organick 1972).
use Rattle.std.specs.Prelude.{◌≡◌, ◌≢◌, ℕ, ◌+◌, ◌==◌, if◌then◌else◌, codes, true, map, List, [], ◌∷◌, Some, None, count_by, length}
use Rattle.tree_model.specs.Access.{Row, with_row}
use Rattle.tree_model.specs.Tree.{Node, with_node, without_node}
use Rattle.tree_model.specs.Trees.{has_segment}
use Rattle.dir_tree.specs.declared.node.NewNode.{NewNode}
use Rattle.dir_tree.specs.Nodes.{Branches, with_quotas}
use Rattle.quota_cells.specs.Accounts.{has, look, with_value}
use Rattle.quota_cells.specs.Cells.{CellMaps, IsRising, quota_in}

pub record AccountMaps : Type 0 where
  pub nodes : List Node
  pub entries : List ℕ
  pub next : ℕ
  pub segments : List ℕ
  pub counts : List ℕ

-- the tree with the quotas and counts of these cells
abbrev pub accounts_of : Branches → CellMaps → AccountMaps
accounts_of t c = record {
  nodes = with_quotas (quota_in c) t.nodes;
  entries = map (λ n. n.entry) t.nodes;
  next = t.next;
  segments = c.segments;
  counts = c.stored;
}

-- the VTOC entry of a node, on its volume
abbrev pub entry_of : AccountMaps → ℕ → ℕ
entry_of a u = look (map (λ n. n.uid) a.nodes) a.entries u

-- how many stored pages a segment has
abbrev pub count_of : AccountMaps → ℕ → ℕ
count_of a s = look a.segments a.counts s

-- Each segment has as many of these stored pages, pairs of a uid and a page, as the accounts count.
abbrev pub Counts : AccountMaps → List (ℕ × ℕ) → Type 0
Counts a stored = (s : ℕ) → count_of a s ≡ count_by (λ x. x.0 == s) stored

-- The segments of the tree stand in the order of their uids, each once and with its count. Each node has a VTOC entry.
pub record HasColumns (a : AccountMaps) : Type 0 where
  pub rising : IsRising a.segments
  pub counted : length a.counts ≡ length a.segments
  pub segments : (u : ℕ) → has a.segments u ≡ has_segment a.nodes u
  pub homes : length a.entries ≡ length a.nodes

-- the root alone, with this quota
abbrev pub root_alone : ℕ → ℕ → ℕ → AccountMaps
root_alone volume entry quota = record {
  nodes = record {
    uid = 1;
    superior = None;
    name = codes "root";
    directory = true;
    volume = volume;
    pages = 0;
    quota = quota;
    rows = [];
  } ∷ [];
  entries = entry ∷ [];
  next = 2;
  segments = [];
  counts = [];
}

-- a segment has this many stored pages, and all else is as it was
pub record Recounts (old new : AccountMaps) (seg count : ℕ) : Type 0 where
  pub nodes : new.nodes ≡ old.nodes
  pub entries : new.entries ≡ old.entries
  pub next : new.next ≡ old.next
  pub counts : (s : ℕ) → count_of new s ≡ (if seg == s then count else count_of old s)

-- the nodes are these, and all else is as it was
pub record Changes (old new : AccountMaps) (ns : List Node) : Type 0 where
  pub nodes : new.nodes ≡ ns
  pub entries : new.entries ≡ old.entries
  pub next : new.next ≡ old.next
  pub counts : (s : ℕ) → count_of new s ≡ count_of old s

-- a new branch of a directory, without quota
abbrev pub branch_of : ℕ → ℕ → NewNode → Node
branch_of uid superior new = record {
  uid = uid;
  superior = Some superior;
  name = new.name;
  directory = new.dir;
  volume = new.volume;
  pages = new.length;
  quota = 0;
  rows = new.acl;
}

-- a node is added, which gets the next uid
pub record Gains (old new : AccountMaps) (node : Node) (entry : ℕ) : Type 0 where
  pub nodes : new.nodes ≡ node ∷ old.nodes
  pub entries : new.entries ≡ entry ∷ old.entries
  pub next : new.next ≡ old.next + 1
  pub counts : (s : ℕ) → count_of new s ≡ count_of old s

-- a node is taken out
pub record Loses (old new : AccountMaps) (uid : ℕ) : Type 0 where
  pub nodes : new.nodes ≡ without_node old.nodes uid
  pub entries : (u : ℕ) → u ≢ uid → entry_of new u ≡ entry_of old u
  pub next : new.next ≡ old.next
  pub counts : (s : ℕ) → count_of new s ≡ count_of old s

-- the access control list of a node
abbrev pub rows_in : List Node → ℕ → List Row
rows_in [] u = []
rows_in (n ∷ ns) u = if n.uid == u then n.rows else rows_in ns u

-- the nodes once a row of a segment's list is set
abbrev pub with_row_in : List Node → ℕ → Row → List Node
with_row_in nodes u row = with_node nodes u (λ n. record n { rows = with_row row n.rows })

-- a segment has another home, and all else is as it was
pub record Rehomes (old new : AccountMaps) (seg volume entry : ℕ) : Type 0 where
  pub nodes : new.nodes ≡ with_node old.nodes seg (λ n. record n { volume = volume })
  pub entries : (u : ℕ) → entry_of new u ≡ (if seg == u then entry else entry_of old u)
  pub next : new.next ≡ old.next
  pub counts : (s : ℕ) → count_of new s ≡ count_of old s

-- the accounts once a segment has another home
abbrev pub rehomed : AccountMaps → ℕ → ℕ → ℕ → AccountMaps
rehomed a seg volume entry = record a {
  nodes = with_node a.nodes seg (λ n. record n { volume = volume });
  entries = with_value (map (λ n. n.uid) a.nodes) a.entries seg entry;
}
