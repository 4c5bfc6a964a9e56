-- What becomes of the next segment of a chain, by the tables.
use Rattle.std.specs.Prelude.{◌≡◌, ◌<◌, ℕ, true, map, IsSome, List, None}
use Rattle.dir_tree.specs.Nodes.{chain_of}
use Rattle.tree_model.specs.Tree.{node_in}
use Rattle.active_segs.specs.Active.{IsFull, IsLeastFree}
use Rattle.active_segs.specs.Victim.{HasItsSuperiors, HasOneOffChain, hand_moved}
use Rattle.page_control.specs.Tied.{map_at}
use Rattle.seg_control.specs.declared.Link.{Link}
use Rattle.seg_control.specs.declared.Next.{Next}
use Rattle.seg_control.specs.declared.Next.TheVariants.{Activated, Victim, Whole}
use Rattle.seg_control.specs.Next.{AreActive, IsFirstInactive, link_at, made_active, superior_of, table_for, uids_of, words_in}
use Rattle.storage_ops.specs.Connecting.{link_of}
use Rattle.storage_ops.specs.Shown.{is_there}
use Rattle.machine_model.specs.Actions.{pool_of_node}
use Rattle.machine_model.specs.Reads.{first_inactive, free_place, or_zero}
use Rattle.machine_model.specs.State.{Storage}

-- the chain of a node, as links
abbrev pub links_of : Storage → ℕ → List Link
links_of st of = map (link_of st.accounts) (chain_of st.accounts.nodes of)

-- the pool of the first segment of a node's chain that isn't active
abbrev pub wanted_pool : Storage → ℕ → ℕ
wanted_pool st of = pool_of_node
    (node_in st.accounts.nodes (or_zero (first_inactive st.ast (chain_of st.accounts.nodes of))))

-- the segment of the first inactive link is active now, in the least free place of its pool
pub record JoinsAt (old new : Storage) (chain : List Link) (place i : ℕ) : Type 0 where
  pub first : IsFirstInactive old.ast.entries chain i
  pub least : IsLeastFree old.ast (link_at chain i).pool place
  pub effect : new ≡ record old {
    ast = made_active old.ast place (link_at chain i).uid (superior_of chain i)
        (table_for (map_at old.pages.vtocs (link_at chain i).home) (words_in (link_at chain i).pool));
  }

-- the pool of the first inactive link is full, and its hand has moved
pub record FindsFull (old new : Storage) (chain : List Link) (i : ℕ) : Type 0 where
  pub first : IsFirstInactive old.ast.entries chain i
  pub full : IsFull old.ast (link_at chain i).pool
  pub effect : new ≡ record old { ast = hand_moved old.ast (link_at chain i).pool (uids_of chain) }

-- what becomes of the next segment of a chain
abbrev pub Joins : Storage → Storage → List Link → Next → Type 0
Joins old new chain (Activated place) = (i : ℕ) × JoinsAt old new chain place i
Joins old new chain (Victim place) = (i : ℕ) × FindsFull old new chain i
Joins old new chain Whole = AreActive old.ast.entries chain × (new ≡ old)

-- The first segment of the chain of a node that isn't active has no place in its pool, and one off the chain can go.
pub record NeedsVictim (st : Storage) (of : ℕ) : Type 0 where
  pub there : is_there st.accounts.nodes of ≡ true
  pub first : IsSome (first_inactive st.ast (chain_of st.accounts.nodes of))
  pub full : free_place st.ast (wanted_pool st of) ≡ None
  pub off : HasOneOffChain st.ast (wanted_pool st of) (chain_of st.accounts.nodes of)

-- A pool has a victim for the chain of a node.
pub record HasVictim (st : Storage) (of pool : ℕ) : Type 0 where
  pub there : is_there st.accounts.nodes of ≡ true
  pub few : pool < 4
  pub off : HasOneOffChain st.ast pool (chain_of st.accounts.nodes of)
  pub superiors : HasItsSuperiors st.ast.entries (chain_of st.accounts.nodes of)
