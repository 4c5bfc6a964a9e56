-- What the cutting of a segment and the deletion of a node ask, and what they leave as it is (own).
use Rattle.std.specs.Prelude.{◌≡◌, ◌≢◌, ◌<◌, ◌≤◌, ℕ, ◌*◌, ◌/◌, ◌%◌, Bool, true, false, ◌&&◌, ◌==◌, if◌then◌else◌, List, Option, None, Some, Ok}
use Rattle.tree_model.specs.Tree.{Node, with_node}
use Rattle.accounts.specs.Maps.{AccountMaps, Changes}
use Rattle.script.specs.Plans.{Plan}
use Rattle.script.specs.declared.commands.Command.{Command}
use Rattle.script.specs.declared.commands.Command.TheVariants as command
use Rattle.book.specs.declared.replies.Reply.{Reply}
use Rattle.flat_model.specs.Branches.{branch_at, segment_at}
use Rattle.flat_model.specs.Commands.{effect_of_tree_command, reply_to_tree_command}
use Rattle.flat_model.specs.Store.{Store}
use Rattle.core_map.specs.CoreMap.{reads_of}
use Rattle.page_table.specs.declared.Ptw.{Ptw}
use Rattle.page_table.specs.declared.Ptw.TheVariants.{Here, Leaving, Null, Out}
use Rattle.active_segs.specs.Active.{IsActive, entry_at, table_at, uid_at as uid_in_place}
use Rattle.page_control.specs.Plain.{binding_at, bindings}
use Rattle.page_control.specs.Tied.{IsNotStarted, is_out}
use Rattle.seg_control.specs.Control.{Control, leads_at, word_of}
use Rattle.seg_control.specs.Kept.{IsInactive}
use Rattle.storage_ops.specs.Shown.{IsCut, IsCutAt, IsInactiveAt, Shows, Storage, answered}

-- the length of the segment that a path leads to is set
pub record HasLengthSet (old new : AccountMaps) (path : List (List ℕ)) (pages : ℕ) : Type 0 where
  pub node : Node
  pub found : segment_at old.nodes path ≡ Ok node
  pub effect : Changes old new (with_node old.nodes node.uid (λ n. record n { pages = pages }))

-- whether references go through a word to a frame
abbrev pub is_here : Ptw → Bool
is_here Null = false
is_here (Out r) = false
is_here (Here f) = true
is_here (Leaving f) = false

-- the frame that a page is on its way out of
abbrev pub leaves : Ptw → Option ℕ
leaves Null = None
leaves (Out r) = None
leaves (Here f) = None
leaves (Leaving f) = Some f

-- No reference goes through the word of a page of the segment from a number on, and none of these pages is being read
-- into a frame.
pub record IsTakenFrom {D : Type 0} (segs : Control D) (uid from : ℕ) : Type 0 where
  pub taken : (q : ℕ) → from ≤ q → is_here (word_of segs.ast uid q) ≡ false
  pub idle : (q : ℕ) → from ≤ q → IsNotStarted segs.pages.core uid q

-- The pages that are cut at an offset, or lie past it, are taken; and the one that is cut, where an offset cuts one,
-- isn't on its record alone.
pub record IsTakenPast {D : Type 0} (segs : Control D) (uid offset : ℕ) : Type 0 where
  pub active : IsActive segs.ast.entries uid
  pub past : IsTakenFrom segs uid (offset / 1024)
  pub cut : 0 < offset % 1024 → is_out (word_of segs.ast uid (offset / 1024)) ≡ false

-- so for the segment that a path leads to
abbrev pub IsTakenPastAt : {D : Type 0} → AccountMaps → Control D → List (List ℕ) → ℕ → Type 0
IsTakenPastAt a segs path offset = (n : Node) → segment_at a.nodes path ≡ Ok n → IsTakenPast segs n.uid offset

-- where the pages of a segment that pass a test lose their frames
abbrev pub unbound : ℕ → (ℕ → Bool) → Option (ℕ × ℕ) → Option (ℕ × ℕ)
unbound uid test None = None
unbound uid test (Some x) = if x.0 == uid && test x.1 then None else Some x

-- The pages of an active segment that pass a test have the word `Null` and no frame now. Its other words, all other
-- page tables, what frames are bound to else and read into, what is active, connected and known, the nodes and their
-- homes and the drives are as they were.
pub record Unstores {D : Type 0} (old new : Storage D) (uid : ℕ) (test : ℕ → Bool) : Type 0 where
  pub nodes : new.accounts.nodes ≡ old.accounts.nodes
  pub entries : new.accounts.entries ≡ old.accounts.entries
  pub next : new.accounts.next ≡ old.accounts.next
  pub places : new.segs.ast.entries ≡ old.segs.ast.entries
  pub sizes : new.segs.ast.sizes ≡ old.segs.ast.sizes
  pub hands : new.segs.ast.hands ≡ old.segs.ast.hands
  pub tables : (place : ℕ) → uid_in_place old.segs.ast.entries place ≢ Some uid
      → table_at new.segs.ast.tables place ≡ table_at old.segs.ast.tables place
  pub kept : (q : ℕ) → test q ≡ false → word_of new.segs.ast uid q ≡ word_of old.segs.ast uid q
  pub gone : (q : ℕ) → test q ≡ true → word_of new.segs.ast uid q ≡ Null
  pub bound : (f : ℕ) → binding_at (bindings new.segs.pages.core) f
      ≡ unbound uid test (binding_at (bindings old.segs.pages.core) f)
  pub reads : reads_of new.segs.pages.core ≡ reads_of old.segs.pages.core
  pub links : new.segs.links ≡ old.segs.links
  pub moving : new.segs.moving ≡ old.segs.moving
  pub whos : new.whos ≡ old.whos
  pub drives : new.segs.pages.volumes.drives ≡ old.segs.pages.volumes.drives

-- Of a node that is to be deleted: no descriptor leads to it, no reference goes through the word of a page of it, and
-- none is being read into a frame.
pub record IsRemovable {D : Type 0} (segs : Control D) (uid : ℕ) : Type 0 where
  pub cut : IsCut segs.ast.entries segs.links uid
  pub taken : IsTakenFrom segs uid 0

-- so for the node other than the root that a path leads to
abbrev pub IsRemovableAt : {D : Type 0} → AccountMaps → Control D → List (List ℕ) → Type 0
IsRemovableAt a segs path = (n : Node) → branch_at a.nodes path ≡ Ok n → IsRemovable segs n.uid

-- what must be taken, cut or made inactive before a command of a process takes effect
abbrev pub IsReady : {D : Type 0} → Storage D → ℕ → Command → Type 0
IsReady t process (command.Terminate number) = leads_at t.segs.links.descriptors process number ≡ None
IsReady t process (command.Acl path row mode) = IsCutAt t.accounts t.segs path
IsReady t process (command.Length path pages) = IsInactiveAt t.accounts t.segs path
IsReady t process (command.Truncate path words) = IsTakenPastAt t.accounts t.segs path words
IsReady t process (command.Delete path) = IsRemovableAt t.accounts t.segs path
IsReady t process command.End = (number : ℕ) → leads_at t.segs.links.descriptors process number ≡ None
IsReady t process _ = Unit {0}

-- An active segment is cut at an offset: the pages wholly past it lose their words and frames, maybe the one that is
-- cut, and no other.
pub record CutsPages {D : Type 0} (old new : Storage D) (uid offset : ℕ) : Type 0 where
  pub test : ℕ → Bool
  pub within : (q : ℕ) → test q ≡ true → offset / 1024 ≤ q
  pub past : (q : ℕ) → offset ≤ 1024 * q → test q ≡ true
  pub unstores : Unstores old new uid test

-- A segment or a directory is active no more, and none of its pages is in a frame. What else is active, and what frames
-- are bound to else, stays.
pub record TakesOut {D : Type 0} (old new : Storage D) (uid : ℕ) : Type 0 where
  pub inactive : IsInactive new.segs.ast.entries uid
  pub entries : (place : ℕ) → uid_in_place old.segs.ast.entries place ≢ Some uid
      → entry_at new.segs.ast.entries place ≡ entry_at old.segs.ast.entries place
  pub tables : (place : ℕ) → uid_in_place old.segs.ast.entries place ≢ Some uid
      → table_at new.segs.ast.tables place ≡ table_at old.segs.ast.tables place
  pub bound : (f : ℕ) → binding_at (bindings new.segs.pages.core) f
      ≡ unbound uid (λ q. true) (binding_at (bindings old.segs.pages.core) f)

-- What no tree command changes: descriptors and trailers, for whom processes run, the drives, what is being read into
-- frames, and the pools. Nothing becomes active by it, and no frame is bound to another page.
pub record KeepsRest {D : Type 0} (old new : Storage D) : Type 0 where
  pub descriptors : new.segs.links.descriptors ≡ old.segs.links.descriptors
  pub trailers : new.segs.links.trailers ≡ old.segs.links.trailers
  pub moving : new.segs.moving ≡ old.segs.moving
  pub whos : new.whos ≡ old.whos
  pub drives : new.segs.pages.volumes.drives ≡ old.segs.pages.volumes.drives
  pub reads : reads_of new.segs.pages.core ≡ reads_of old.segs.pages.core
  pub sizes : new.segs.ast.sizes ≡ old.segs.ast.sizes
  pub hands : new.segs.ast.hands ≡ old.segs.ast.hands
  pub active : (place u : ℕ) → uid_in_place new.segs.ast.entries place ≡ Some u
      → uid_in_place old.segs.ast.entries place ≡ Some u
  pub bound : (f u q : ℕ) → binding_at (bindings new.segs.pages.core) f ≡ Some (u, q)
      → binding_at (bindings old.segs.pages.core) f ≡ Some (u, q)

-- A tree command of a process is answered as in each flat store that is shown, and changes what is shown as there.
pub record Commits {D : Type 0} (drive : D → List (List ℕ)) (old new : Storage D) (process : ℕ) (c : Command)
    (r : Reply) : Type 0 where
  pub answer : (p : Plan) (s : Store) → Shows drive p s old → r ≡ reply_to_tree_command p s process c
  pub effect : (p : Plan) (s : Store) → Shows drive p s old
      → Shows drive p (answered r s (effect_of_tree_command p s process c)) new
