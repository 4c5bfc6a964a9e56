-- What always holds of the tables behind a tree.
use Rattle.std.specs.Prelude.{◌≡◌, ◌≢◌, ℕ, ◌+◌, ◌<◌, ◌≤◌, Bool, List, [], ◌∷◌, ◌++◌, length, map, count_by, Option, Some, None, slice_index, slice_index_or, ◌-◌, ◌==◌, if◌then◌else◌}
use Rattle.dir_tree.specs.declared.node.Node.{Node}
use Rattle.dir_tree.specs.declared.entries.Entry.{Entry}
use Rattle.dir_tree.specs.Index.{Places, HasPlace, IsOrdered, node_at}
use Rattle.dir_tree.specs.Shape.{shapes}
use Rattle.tree_model.specs.Tree.{is_superior}
use Rattle.tree_model.specs.Trees.{IsTree}

abbrev pub no_entry : Entry
no_entry = record { uid = 0; superior = None; place = 0; inferiors = 0 }

abbrev pub entry_at : List Entry → ℕ → Entry
entry_at entries i = slice_index_or entries i no_entry

-- the entries of these places, in the order in which the places stand
abbrev pub listed : List Entry → List ℕ → List Entry
listed slots order = map (entry_at slots) order

-- there is a slot for each place, an entry stands in that of its place, and no place stands twice
pub record IsListed (slots : List Entry) (order : List ℕ) : Type 0 where
  pub size : length slots ≡ 4097
  pub within : (i : ℕ) → i < length order → slice_index order i < 4097
  pub places : (i : ℕ) → i < length order → (entry_at slots (slice_index order i)).place ≡ slice_index order i
  pub apart : (i j : ℕ) → i < length order → j < length order → i ≢ j → slice_index order i ≢ slice_index order j

-- in the order of uids
abbrev pub IsAscending : List Entry → Type 0
IsAscending entries = (i j : ℕ) → i < j → j < length entries → (entry_at entries i).uid < (entry_at entries j).uid

-- an entry of the list has this uid
pub record HasEntry (entries : List Entry) (uid : ℕ) (e : Entry) : Type 0 where
  pub i : ℕ
  pub within : i < length entries
  pub entry_is : entry_at entries i ≡ e
  pub uid_is : e.uid ≡ uid

-- whether an entry is that of a node in the directory of this uid
abbrev pub lies_in : ℕ → Entry → Bool
lies_in u e = is_superior u e.superior

-- each entry has the number of those that lie in it
abbrev pub IsCounted : List Entry → Type 0
IsCounted entries = (i : ℕ) → i < length entries → (entry_at entries i).inferiors
    ≡ count_by (lies_in (entry_at entries i).uid) entries

-- the entries with the number of a uid changed
abbrev pub recount : ℕ → (ℕ → ℕ) → Entry → Entry
recount uid change e = record e { inferiors = if e.uid == uid then change e.inferiors else e.inferiors }

abbrev pub recounted : ℕ → (ℕ → ℕ) → List Entry → List Entry
recounted uid change entries = map (recount uid change) entries

-- the place that the next node gets: the last free one, else after all others
abbrev pub place_for : List Node → List ℕ → ℕ
place_for nodes free = if length free == 0 then length nodes else slice_index free (length free - 1)

-- the nodes of these entries, the newest first
abbrev pub newest : List Node → List Entry → List Node
newest nodes [] = []
newest nodes (e ∷ es) = newest nodes es ++ node_at nodes e.place ∷ []

-- a branch stands in the index, and the root doesn't
abbrev pub IsNamed : List ℕ → Option ℕ → ℕ → Type 0
IsNamed places None place = HasPlace places place → ⊥
IsNamed places (Some s) place = HasPlace places place

-- a place of the index is that of a node
pub record IsPlace (entries : List Entry) (place : ℕ) : Type 0 where
  pub i : ℕ
  pub within : i < length entries
  pub place_is : (entry_at entries i).place ≡ place

pub record IsKept (nodes : List Node) (entries : List Entry) (free : List ℕ) (index : Places) (next : ℕ) : Type 0 where
  -- each entry is that of the node in its place
  pub uids : (i : ℕ) → i < length entries → (node_at nodes (entry_at entries i).place).uid ≡ (entry_at entries i).uid
  pub superiors : (i : ℕ) → i < length entries → (node_at nodes (entry_at entries i).place).superior
      ≡ (entry_at entries i).superior
  pub within : (i : ℕ) → i < length entries → (entry_at entries i).place < length nodes
  pub rising : IsAscending entries
  pub below : (i : ℕ) → i < length entries → (entry_at entries i).uid < next
  -- the other places
  pub free_within : (i : ℕ) → i < length free → slice_index free i < length nodes
  pub free_apart : (i j : ℕ) → i < j → j < length free → slice_index free i ≢ slice_index free j
  pub unused : (i j : ℕ) → i < length free → j < length entries → slice_index free i ≢ (entry_at entries j).place
  pub count : length nodes ≡ length entries + length free
  pub few : length nodes ≤ 4097
  -- the index
  pub named : (i : ℕ) → i < length entries → IsNamed index.places (entry_at entries i).superior
      (entry_at entries i).place
  pub places : (place : ℕ) → HasPlace index.places place → IsPlace entries place
  pub order : IsOrdered nodes index.places index.hashes
  pub branches : length index.places + 1 ≡ length entries
  pub room : index.room ≡ 4096
  pub tree : IsTree (shapes (newest nodes entries))
