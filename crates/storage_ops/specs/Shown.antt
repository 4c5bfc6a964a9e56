-- What a store has between calls, what is true of it, and which flat store it shows (Bensoussan, Clingen and Daley
-- 1972; Organick 1972; the picture and the counts from scratch are own).
use Rattle.std.specs.Prelude.{◌≡◌, ◌≢◌, ℕ, ◌<◌, ◌≤◌, ◌/◌, ◌%◌, Bool, true, false, ◌&&◌, if◌then◌else◌, is_some, map, replicate, length, slice_index_or, count_by, List, Option, None, Some, Ok}
use Rattle.mnames.specs.declared.principals.Who.{Who}
use Rattle.mnames.specs.declared.modes.Mode.{Mode}
use Rattle.script.specs.Plans.{Plan, nobody}
use Rattle.book.specs.declared.replies.Reply.{Reply}
use Rattle.book.specs.declared.replies.Reply.TheVariants as reply
use Rattle.tree_model.specs.Access.{access_of}
use Rattle.tree_model.specs.Tree.{Node, entries_on, has_directory, node_in, pool_of, taken_on, volume_in}
use Rattle.known_segs.specs.Known.{uid_of}
use Rattle.accounts.specs.Maps.{AccountMaps, Counts, count_of, entry_of}
use Rattle.flat_model.specs.Branches.{segment_at}
use Rattle.flat_model.specs.Commands.{takes_effect}
use Rattle.flat_model.specs.Pages.{is_stored, IsOnce}
use Rattle.flat_model.specs.Store.{Store, records_of, entries_of}
use Rattle.descriptor_seg.specs.declared.Sdw.TheVariants.{Present}
use Rattle.descriptor_seg.specs.Descriptors.{sdw_at}
pub use Rattle.tree_commands.specs.Shown.{HasMoved, HasRowSet, IsFound, IsThere, ShowsTree, is_there, pages_in, pages_of}
use Rattle.vtoc.specs.Vtoc.{Entry as VtocEntry, entry_at}
use Rattle.active_segs.specs.declared.Entry.{Entry}
use Rattle.active_segs.specs.Active.{ActiveSegs, superior_at, uid_at as uid_in_place}
use Rattle.active_segs.specs.Pool.{IsInPool}
use Rattle.volumes.specs.Volumes.{Vols}
use Rattle.page_control.specs.declared.Home.{Home}
use Rattle.core_map.specs.declared.Frame.TheVariants as frame
use Rattle.page_control.specs.Plain.{Paging, Plain, plain}
use Rattle.page_control.specs.Tied.{flags_in, map_at, uid_at, vtoc_in}
use Rattle.record_map.specs.Bitmap.{in_use}
use Rattle.page_control.specs.Counts.{taken, used, size, entries}
use Rattle.page_control.specs.Picture.{is_filed_at, words_at}
use Rattle.seg_control.specs.Kept.{IsInactive}
use Rattle.seg_control.specs.Control.{Control, Links, kst_at, leads_at, sdws_at}

-- the tree with its accounts, segment control over drives of type D, and for whom each process runs
pub record Storage (D : Type 0) : Type 0 where
  pub accounts : AccountMaps
  pub segs : Control D
  pub whos : List Who

-- ---- nodes

-- the home of a node: the VTOC entry that it has on its volume
abbrev pub home_of : AccountMaps → ℕ → Home
home_of a u = record { volume = volume_in a.nodes u; entry = entry_of a u }

-- how many pages the file map at a home names
abbrev pub named_at : List (List (Option VtocEntry)) → Home → ℕ
named_at vtocs home = count_by is_some (map_at vtocs home)

-- for whom a process runs
abbrev pub who_at : List Who → ℕ → Who
who_at whos process = slice_index_or whos process nobody

-- ---- what is true between calls

-- Each node's home is used for it, and no entry is used for anything else.
pub record AreHoused (a : AccountMaps) (vtocs : List (List (Option VtocEntry))) : Type 0 where
  pub homes : (u : ℕ) → is_there a.nodes u ≡ true → uid_at vtocs (home_of a u) ≡ Some u
  pub there : (home : Home) (u : ℕ) → uid_at vtocs home ≡ Some u → is_there a.nodes u ≡ true
  pub only : (home : Home) (u : ℕ) → uid_at vtocs home ≡ Some u → home ≡ home_of a u

-- The file map at a node's home names as many pages as the accounts count, each below the node's length. They count
-- none of what isn't there. A node has 256 pages at most, and a directory none.
pub record AreCounted (a : AccountMaps) (vtocs : List (List (Option VtocEntry))) : Type 0 where
  pub counts : (u : ℕ) → is_there a.nodes u ≡ true → named_at vtocs (home_of a u) ≡ count_of a u
  pub inside : (u q : ℕ) → is_there a.nodes u ≡ true → is_filed_at vtocs (home_of a u) q ≡ true → q < pages_in a.nodes u
  pub absent : (u : ℕ) → is_there a.nodes u ≡ false → count_of a u ≡ 0
  pub most : (u : ℕ) → pages_in a.nodes u ≤ 256
  pub flat : (u : ℕ) → has_directory a.nodes u ≡ true → pages_in a.nodes u ≡ 0

-- The records in use of a volume are as many as the stored pages of the segments on it, and its used entries as many as
-- the nodes on it. A file map can name each of its records.
pub record AreTaken (a : AccountMaps) (flags : List (List Bool)) (vtocs : List (List (Option VtocEntry))) : Type 0 where
  pub records : (stored : List (ℕ × ℕ)) (v : ℕ) → Counts a stored → taken flags v ≡ taken_on a.nodes stored v
  pub entries : (v : ℕ) → used vtocs v ≡ entries_on a.nodes v
  pub short : (v : ℕ) → size flags v < 65536

-- What is active is in the tree, with its superior there, in a place of the pool that its length asks for.
pub record AreInTree (nodes : List Node) (ast : ActiveSegs) : Type 0 where
  pub there : (place u : ℕ) → uid_in_place ast.entries place ≡ Some u → is_there nodes u ≡ true
  pub superiors : (place u : ℕ) (n : Node) → uid_in_place ast.entries place ≡ Some u → node_in nodes u ≡ Some n
      → superior_at ast.entries place ≡ n.superior
  pub pools : (place u : ℕ) (n : Node) → uid_in_place ast.entries place ≡ Some u → node_in nodes u ≡ Some n
      → IsInPool ast.sizes (pool_of n) place

-- A connected descriptor has the mode of its process's access, and the length of its segment.
pub record HaveRights (nodes : List Node) (entries : List (Option Entry)) (links : Links)
    (whos : List Who) : Type 0 where
  pub modes : (process number place pages u : ℕ) (mode : Mode) (n : Node)
      → sdw_at (sdws_at links.descriptors process) number ≡ Present place mode pages
      → uid_in_place entries place ≡ Some u → node_in nodes u ≡ Some n → mode ≡ access_of (who_at whos process) n.rows
  pub lengths : (process number place pages u : ℕ) (mode : Mode) (n : Node)
      → sdw_at (sdws_at links.descriptors process) number ≡ Present place mode pages
      → uid_in_place entries place ≡ Some u → node_in nodes u ≡ Some n → pages ≡ n.pages

-- A number stands for what is in the tree, or was. Each process has a known segment table.
pub record AreKnown (next : ℕ) (known : List (List (Option ℕ))) (whos : List Who) : Type 0 where
  pub older : (process number u : ℕ) → uid_of (kst_at known process) number ≡ Some u → u < next
  pub processes : length whos ≡ length known

-- What is true of a store between calls.
pub record IsStore (now : Plain) (ast : ActiveSegs) (links : Links) (a : AccountMaps) (whos : List Who) : Type 0 where
  pub housed : AreHoused a now.vtocs
  pub counted : AreCounted a now.vtocs
  pub taken : AreTaken a now.records now.vtocs
  pub active : AreInTree a.nodes ast
  pub rights : HaveRights a.nodes ast.entries links whos
  pub known : AreKnown a.next links.known whos

-- ---- the flat store that a store shows

-- a page is stored where the file map at the home of its segment names a record for it
unfoldable pub is_filed : AccountMaps → List (List (Option VtocEntry)) → ℕ → ℕ → Bool
is_filed a vtocs u q = is_there a.nodes u && is_filed_at vtocs (home_of a u) q

-- the words of a page, by the words of each page at each home; zeros where the segment isn't there
unfoldable pub picture : AccountMaps → (ℕ → Home → ℕ → List ℕ) → ℕ → ℕ → List ℕ
picture a words u q = if is_there a.nodes u then words u (home_of a u) q else replicate 1024 0

-- Its stored pages are those that the file maps name, each listed once, and its words are those of the picture.
pub record ShowsPages (s : Store) (a : AccountMaps) (vtocs : List (List (Option VtocEntry))) (image : ℕ → Home → ℕ
    → List ℕ) : Type 0 where
  pub stored : (u q : ℕ) → is_stored s.stored u q ≡ is_filed a vtocs u q
  pub once : IsOnce s.stored
  pub words : (u o : ℕ) → s.words u o ≡ slice_index_or (picture a image u (o / 1024)) (o % 1024) 0

-- The volumes of the script have the sizes of the tables, and its processes run for these principals.
pub record ShowsScript (p : Plan) (now : Plain) (people : List Who) : Type 0 where
  pub records : (v : ℕ) → records_of p v ≡ size now.records v
  pub entries : (v : ℕ) → entries_of p v ≡ entries now.vtocs v
  pub whos : people ≡ map (λ x. x.who) p.processes

-- A store shows a flat store: its tree, what numbers stand for, its stored pages and its words, on the volumes of the
-- script. How far the processes have come isn't shown.
pub record Shows {D : Type 0} (drive : D → List (List ℕ)) (p : Plan) (s : Store) (t : Storage D) : Type 0 where
  pub tree : ShowsTree s t.accounts
  pub known : s.known ≡ t.segs.links.known
  pub pages : ShowsPages s t.accounts t.segs.pages.volumes.vtocs (words_at (plain drive t.segs.pages))
  pub script : ShowsScript p (plain drive t.segs.pages) t.whos

-- ---- answers

-- whether a reply says why a command did nothing: all do but those that are answered where it was done or told
abbrev pub is_refusal : Reply → Bool
is_refusal (reply.Word w) = false
is_refusal reply.Done = false
is_refusal (reply.Made uid) = false
is_refusal (reply.Known number) = false
is_refusal (reply.SegIs uid length stored) = false
is_refusal (reply.DirIs uid quota used) = false
is_refusal _ = true

-- a reply, where it is a refusal
abbrev pub refusal : Reply → Option Reply
refusal r = if is_refusal r then Some r else None

-- ---- effects

-- a flat store once a command was answered so: its effect, unless it is refused
abbrev pub answered : Reply → Store → Store → Store
answered r before after = if takes_effect r then after else before

-- a store whose processes know these segments by their numbers
abbrev pub with_known : {D : Type 0} → Storage D → List (List (Option ℕ)) → Storage D
with_known t known = record t { segs = record t.segs { links = record t.segs.links { known = known } } }

-- a store whose VTOCs are these
abbrev pub with_vtocs : {D : Type 0} → Control D → List (List (Option VtocEntry)) → Control D
with_vtocs segs vtocs = record segs {
  pages = record segs.pages { volumes = record segs.pages.volumes { vtocs = vtocs } };
}

-- ---- what calls ask

-- no descriptor leads to the segment
pub record IsCut (entries : List (Option Entry)) (links : Links) (uid : ℕ) : Type 0 where
  pub none : (process number place : ℕ) → leads_at links.descriptors process number ≡ Some place
      → uid_in_place entries place ≢ Some uid

-- none leads to the segment that a path leads to
abbrev pub IsCutAt : {D : Type 0} → AccountMaps → Control D → List (List ℕ) → Type 0
IsCutAt a segs path = (n : Node) → segment_at a.nodes path ≡ Ok n → IsCut segs.ast.entries segs.links n.uid

-- the segment that a path leads to isn't active
abbrev pub IsInactiveAt : {D : Type 0} → AccountMaps → Control D → List (List ℕ) → Type 0
IsInactiveAt a segs path = (n : Node) → segment_at a.nodes path ≡ Ok n → IsInactive segs.ast.entries n.uid

-- so many free frames of zeros, over these volumes
abbrev pub empty_frames : {D : Type 0} → ℕ → Vols D → Paging D
empty_frames count volumes = record {
  core = record { frames = replicate count frame.Free; hand = 0 };
  frames = replicate count (replicate 1024 0);
  volumes = volumes;
}

-- The volumes have the sizes that the script says, and no record of them and no VTOC entry is in use.
pub record AreFresh (p : Plan) (flags : List (List Bool)) (vtocs : List (List (Option VtocEntry))) : Type 0 where
  pub records : (v : ℕ) → records_of p v ≡ size flags v
  pub entries : (v : ℕ) → entries_of p v ≡ length (vtoc_in vtocs v)
  pub unused : (v r : ℕ) → in_use (flags_in flags v) r ≡ false
  pub free : (v e : ℕ) → entry_at (vtoc_in vtocs v) e ≡ None
