-- What the volumes hold: the flat store after the book, but for the words of the pages that are in frames (Organick
-- 1972).
use Rattle.std.specs.Prelude.{◌≡◌, ◌≢◌, ◌/◌, ◌%◌, ℕ, Bool, slice_index_or, List, [], Option, Some}
use Rattle.tree_model.specs.Tree.{Node, node_in}
use Rattle.flat_model.specs.Pages.{is_stored}
use Rattle.flat_model.specs.Store.{Store}
use Rattle.custody_model.specs.Custody.{Custody, bound_page}
use Rattle.vtoc.specs.Vtoc.{Entry, record_at}
use Rattle.page_control.specs.declared.Home.{Home}
use Rattle.page_control.specs.Picture.{is_filed_at}
use Rattle.page_control.specs.Tied.{AreFiled, uid_at, vtoc_in}

-- a node has an entry on its volume
pub record HasHome (vtocs : List (List (Option Entry))) (n : Node) : Type 0 where
  pub home : Home
  pub volume : home.volume ≡ n.volume
  pub used : uid_at vtocs home ≡ Some n.uid

-- an entry is that of a node of its volume
pub record HasNode (nodes : List Node) (home : Home) (uid : ℕ) : Type 0 where
  pub node : Node
  pub there : node_in nodes uid ≡ Some node
  pub volume : node.volume ≡ home.volume

-- Volumes with these pages on their drives, these records in use and these entries hold a flat store, by a custody.
pub record IsOnDisk (disks : List (List (List ℕ))) (records : List (List Bool)) (vtocs : List (List (Option Entry)))
    (t : Store) (c : Custody) : Type 0 where
  -- each node has just one entry, on its volume, and there are no others
  pub homes : (n : Node) → node_in t.nodes n.uid ≡ Some n → HasHome vtocs n
  pub nodes : (home : Home) (uid : ℕ) → uid_at vtocs home ≡ Some uid → HasNode t.nodes home uid
  pub only : (home other : Home) (uid : ℕ) → uid_at vtocs home ≡ Some uid → uid_at vtocs other ≡ Some uid
      → home ≡ other
  -- a node's file map names a record for exactly its stored pages; no record is named twice, and those in use are named
  pub maps : (home : Home) (uid page : ℕ) → uid_at vtocs home ≡ Some uid
      → is_filed_at vtocs home page ≡ is_stored t.stored uid page
  pub filed : AreFiled records vtocs
  -- the record of a stored page that is in no frame has the page's words
  pub words : (home : Home) (uid o r : ℕ) → uid_at vtocs home ≡ Some uid
      → record_at (vtoc_in vtocs home.volume) home.entry (o / 1024) ≡ Some r
      → ((f : ℕ) → bound_page (c.frame f) ≢ Some (uid, o / 1024))
      → slice_index_or (slice_index_or (slice_index_or disks home.volume []) r []) (o % 1024) 0 ≡ t.words uid o
