-- What the machine keeps over every schedule (Bensoussan, Clingen and Daley 1972; Organick 1972; own).
use Rattle.std.specs.Prelude.{◌≡◌, ◌≤◌, ◌<◌, ◌^◌, ℕ, Bool, true, false, count_by, length, map, min, sum, slice_get, is_some, List, [], ◌∷◌, Some, None}
use Rattle.std.specs.List.{list_all}
use Rattle.mnames.specs.declared.principals.Who.{Who}
use Rattle.script.specs.Plans.{Plan}
use Rattle.book.specs.declared.entries.Entry.{Entry}
use Rattle.book.specs.declared.entries.Entry.TheVariants as entry
use Rattle.tree_model.specs.Access.{access_of}
use Rattle.tree_model.specs.Tree.{Node, node_in, quota_in, used_by}
use Rattle.tree_model.specs.Trees.{IsTree}
use Rattle.accounts.specs.Maps.{AccountMaps, Counts}
use Rattle.flat_model.specs.Legal.{is_within}
use Rattle.flat_model.specs.Store.{Store}
use Rattle.page_control.specs.Picture.{words_at}
use Rattle.seg_control.specs.Control.{sdws_at}
use Rattle.seg_control.specs.Kept.{IsKept}
use Rattle.storage_ops.specs.Shown.{IsStore, ShowsTree, ShowsPages, ShowsScript, who_at}
use Rattle.machine_model.specs.Custodial.{KeepsBook}
use Rattle.machine_model.specs.Holding.{seen}
use Rattle.machine_model.specs.Reads.{cut_of_owner, flat_of, is_active, processor_at}
use Rattle.machine_model.specs.declared.Processor.{Processor}
use Rattle.machine_model.specs.declared.CutDescriptor.{CutDescriptor}
use Rattle.machine_model.specs.State.{Owner, State, Storage}

-- What the accounts promise: their nodes are a tree, and no account is charged for more pages than its quota.
pub record AreAccounts (a : AccountMaps) : Type 0 where
  pub tree : IsTree a.nodes
  pub within : (stored : List (ℕ × ℕ)) → Counts a stored → (account : ℕ)
      → used_by a.nodes stored account ≤ quota_in a.nodes account

-- The store's own promise: page tables, frames and file maps agree, descriptors and trailers do, what is active is in
-- the tree, the running counts are the counts from scratch, and a connected descriptor has the right mode and length.
pub record StoreKept (st : Storage) : Type 0 where
  pub kept : IsKept st.pages st.ast st.links
  pub counted : IsStore st.pages st.ast st.links st.accounts st.whos
  pub accounts : AreAccounts st.accounts
  pub places : length st.ast.entries ≡ sum st.ast.sizes

-- The tree, the known numbers and the quotas, the words of each page and the stored pages are those of the flat store.
pub record IsFaithful (p : Plan) (t : Store) (st : Storage) : Type 0 where
  pub tree : ShowsTree t st.accounts
  pub known : t.known ≡ st.links.known
  pub pages : ShowsPages t st.accounts st.pages.vtocs (words_at st.pages)
  pub script : ShowsScript p st.pages st.whos

-- A descriptor that the owner's job has cut had the mode of its process's access, and the length of its segment.
pub record HadRights (nodes : List Node) (whos : List Who) (cut : List CutDescriptor) : Type 0 where
  pub modes : (i : ℕ) (d : CutDescriptor) (n : Node) → slice_get cut i ≡ Some d → node_in nodes d.uid ≡ Some n
      → d.mode ≡ access_of (who_at whos d.process) n.rows
  pub lengths : (i : ℕ) (d : CutDescriptor) (n : Node) → slice_get cut i ≡ Some d → node_in nodes d.uid ≡ Some n
      → d.pages ≡ n.pages

-- Each descriptor that the owner's job has cut is one of a process, and its segment is active still.
abbrev pub AreThere : Storage → List CutDescriptor → Type 0
AreThere st [] = Unit {0}
AreThere st (d ∷ ds) = ((d.process < length st.links.descriptors) ×
    (d.number < length (sdws_at st.links.descriptors d.process))
    × (is_active st.ast d.uid ≡ true)) × AreThere st ds

-- The quotas sum to the root's at boot, and no account is charged for more pages than its quota.
pub record IsConserved (p : Plan) (t : Store) : Type 0 where
  pub total : sum (map (λ n. n.quota) t.nodes) ≡ p.quota
  pub within : list_all (is_within t) t.nodes ≡ true

-- whether an entry tells a drive's failure
abbrev pub is_fault : Entry → Bool
is_fault (entry.Fault k) = true
is_fault _ = false

-- The owner of the supervisor takes part, has a process, has nothing to drop, and has no transfer under way.
pub record IsAtWork (p : Processor) : Type 0 where
  pub online : p.cpu.online ≡ true
  pub busy : is_some p.cpu.process ≡ true
  pub clear : p.cpu.due ≡ None
  pub idle : p.cpu.transfer ≡ None

-- As many frames, processors and processes as the script says.
pub record HasSizes (s : State) : Type 0 where
  pub frames : length s.store.pages.core.frames ≡ s.plan.frames
  pub processors : length s.processors ≡ s.plan.processors
  pub processes : length s.runs ≡ length s.plan.processes

-- What the store says of a machine: its own promise, and that it shows the flat store after the book.
pub record StoreSays (s : State) : Type 0 where
  pub store : StoreKept s.store
  pub faithful : IsFaithful s.plan (flat_of s) s.store
  pub rights : HadRights s.store.accounts.nodes s.store.whos (cut_of_owner s.owner)
  pub cut : AreThere s.store (cut_of_owner s.owner)
  pub conserved : IsConserved s.plan (flat_of s)
  pub frames : length s.store.pages.core.frames ≡ s.plan.frames

-- The whole promise. The book is legal and clean, what the tables show is the custody after it, what processors hold is
-- current or they are warned, and what goes is the owner's alone (`book`); the store keeps its own promise and shows
-- the flat store after the book; quotas are conserved; and the book tells at most as many failures as the drives count,
-- whose counts may stop at 2 ^ 63.
pub record Keeps (s : State) : Type 0 where
  pub book : KeepsBook (seen s)
  pub store : StoreKept s.store
  pub faithful : IsFaithful s.plan (flat_of s) s.store
  pub rights : HadRights s.store.accounts.nodes s.store.whos (cut_of_owner s.owner)
  pub cut : AreThere s.store (cut_of_owner s.owner)
  pub conserved : IsConserved s.plan (flat_of s)
  pub few_faults : min (count_by is_fault s.entries) (2 ^ 63) ≤ s.faults
  pub sizes : HasSizes s
  pub at_work : (o : Owner) → s.owner ≡ Some o → IsAtWork (processor_at s.processors o.cpu)
