-- What the calls ask that connect descriptors, and that make segments active (Bensoussan, Clingen and Daley 1972).
use Rattle.std.specs.Prelude.{◌≡◌, ℕ, ◌<◌, true, map, List, Option, None, Some, length, slice_index_or}
use Rattle.mnames.specs.declared.modes.Mode.{Mode}
use Rattle.mnames.specs.declared.modes.Mode.TheVariants as mode
use Rattle.mnames.specs.declared.principals.Who.{Who}
use Rattle.tree_model.specs.Access.{access_of}
use Rattle.accounts.specs.Maps.{AccountMaps}
use Rattle.dir_tree.specs.Nodes.{chain_of}
use Rattle.tree_model.specs.Tree.{Node, node_in, pool_of}
use Rattle.active_segs.specs.declared.Entry.{Entry}
use Rattle.active_segs.specs.Active.{ActiveSegs, IsFull, uid_at}
use Rattle.active_segs.specs.Victim.{HasOneOffChain}
use Rattle.seg_control.specs.declared.Link.{Link}
use Rattle.seg_control.specs.Kept.{pair_at}
use Rattle.seg_control.specs.Next.{IsFirstInactive, link_at, uids_of}
use Rattle.storage_ops.specs.Shown.{home_of, is_there, who_at}

-- a process has this access to a segment, which has this length
pub record IsRight (nodes : List Node) (whos : List Who) (process uid : ℕ) (m : Mode) (pages : ℕ) : Type 0 where
  pub mode_is : (n : Node) → node_in nodes uid ≡ Some n → m ≡ access_of (who_at whos process) n.rows
  pub pages_are : (n : Node) → node_in nodes uid ≡ Some n → pages ≡ n.pages

-- each process of a list has the access beside it to the segment of a place, which has this length
pub record AreRights (nodes : List Node) (whos : List Who) (entries : List (Option Entry)) (place : ℕ)
    (list : List (ℕ × ℕ)) (modes : List Mode) (pages : ℕ) : Type 0 where
  pub each : (i uid : ℕ) → i < length list → uid_at entries place ≡ Some uid
      → IsRight nodes whos (pair_at list i).0 uid (slice_index_or modes i mode.Null) pages

-- the pool of a node, 0 where it isn't there
abbrev pub pool_in : Option Node → ℕ
pool_in None = 0
pool_in (Some n) = pool_of n

-- a node as a link of a chain: with its home, and with the pool that its page table is of
abbrev pub link_of : AccountMaps → ℕ → Link
link_of a u = record { uid = u; pool = pool_in (node_in a.nodes u); home = home_of a u }

-- The chain is that of a node: the directories from the root down to it, and the node.
pub record IsChainDown (a : AccountMaps) (chain : List Link) : Type 0 where
  pub uid : ℕ
  pub there : is_there a.nodes uid ≡ true
  pub links : chain ≡ map (link_of a) (chain_of a.nodes uid)

-- Where the pool of the first segment of a chain that isn't active is full, something there is not of the chain.
pub record HasOneToGo (ast : ActiveSegs) (chain : List Link) : Type 0 where
  pub off : (i : ℕ) → IsFirstInactive ast.entries chain i → IsFull ast (link_at chain i).pool
      → HasOneOffChain ast (link_at chain i).pool (uids_of chain)
