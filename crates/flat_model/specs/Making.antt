-- Directories and segments are made and deleted (Bensoussan, Clingen and Daley 1972; the numbers are own).
use Rattle.std.specs.Prelude.{ℕ, ◌+◌, Bool, true, ◌&&◌, ◌==◌, nat_le, if◌then◌else◌, is_some, length, List, ◌∷◌, Option, Some, None, Result, Ok, Err}
use Rattle.std.specs.List.{list_any}
use Rattle.mnames.specs.declared.modes.Mode.TheVariants as mode
use Rattle.mnames.specs.declared.principals.Who.{Who}
use Rattle.script.specs.Plans.{Plan}
use Rattle.book.specs.declared.replies.Reply.{Reply}
use Rattle.book.specs.declared.replies.Reply.TheVariants as reply
use Rattle.tree_model.specs.Access.{Row}
use Rattle.tree_model.specs.Tree.{Node, branch_in, above, entries_on, is_inferior, without_node}
use Rattle.flat_model.specs.Pages.{without_words, without_stored}
use Rattle.flat_model.specs.Branches.{node_at, branch_at, only_directory, parts_of}
use Rattle.flat_model.specs.Store.{Store, entries_of}

-- In a directory: exists where it has a branch of that name; deep where a directory would lie below eight others and
-- the root; room where the tree has 4096 branches; noentry where all VTOC entries of the volume are used; else it is
-- made, with the next uid.
abbrev pub make_in : Plan → Store → ℕ → Bool → List ℕ → Node → Reply
make_in p s volume directory name d =
    if is_some (branch_in s.nodes d.uid name) then reply.Exists
    else if directory && nat_le 8 (length (above s.nodes d.uid)) then reply.Deep
    else if nat_le 4097 (length s.nodes) then reply.Room
    else if nat_le (entries_of p volume) (entries_on s.nodes volume) then reply.NoEntry
    else reply.Made s.next

abbrev pub make_at : Plan → Store → ℕ → Bool → List ℕ → Result Node Reply → Reply
make_at p s volume directory name (Ok d) = make_in p s volume directory name d
make_at p s volume directory name (Err r) = r

-- the root is there already; what the names before the last lead to must be a directory
abbrev pub make_of : Plan → Store → ℕ → Bool → Option (List (List ℕ) × List ℕ) → Reply
make_of p s volume directory None = reply.Exists
make_of p s volume directory (Some parts) = make_at p s volume directory parts.1
    (only_directory reply.NotDir (node_at s.nodes parts.0))

unfoldable pub make_reply : Plan → Store → List (List ℕ) → ℕ → Bool → Reply
make_reply p s path volume directory = make_of p s volume directory (parts_of path)

-- the row of access of a new segment: the process's own principal may read and write
abbrev pub owner_row : Who → Row
owner_row who = record { person = Some who.person; project = Some who.project; mode = mode.Both }

-- a new branch of a directory, without quota
abbrev pub new_branch : ℕ → ℕ → List ℕ → Bool → ℕ → ℕ → List Row → Node
new_branch uid superior name directory volume pages rows = record {
  uid = uid;
  superior = Some superior;
  name = name;
  directory = directory;
  volume = volume;
  pages = pages;
  quota = 0;
  rows = rows;
}

-- such a branch is there; no page of it is stored
abbrev pub made_in : Store → ℕ → Bool → ℕ → List Row → List ℕ → Node → Store
made_in s volume directory pages rows name d = record s {
  nodes = new_branch s.next d.uid name directory volume pages rows ∷ s.nodes;
  next = s.next + 1;
}

abbrev pub made_at : Store → ℕ → Bool → ℕ → List Row → List ℕ → Result Node Reply → Store
made_at s volume directory pages rows name (Ok d) = made_in s volume directory pages rows name d
made_at s volume directory pages rows name (Err r) = s

abbrev pub made_of : Store → ℕ → Bool → ℕ → List Row → Option (List (List ℕ) × List ℕ) → Store
made_of s volume directory pages rows None = s
made_of s volume directory pages rows (Some parts) = made_at s volume directory pages rows parts.1
    (node_at s.nodes parts.0)

unfoldable pub after_make : Store → List (List ℕ) → ℕ → Bool → ℕ → List Row → Store
after_make s path volume directory pages rows = made_of s volume directory pages rows (parts_of path)

-- what the deletion of a node is answered that has inferiors or not, and no quota or some
abbrev pub deletion_of : Bool → Bool → Reply
deletion_of full free = if full then reply.NotEmpty else if free then reply.Done else reply.HasQuota

-- a node is deleted: root for the root's path; notempty where it has an inferior; hasquota where it has quota
abbrev pub delete_of : List Node → Result Node Reply → Reply
delete_of nodes (Ok n) = deletion_of (list_any (is_inferior n.uid) nodes) (n.quota == 0)
delete_of nodes (Err r) = r

unfoldable pub delete_reply : Store → List (List ℕ) → Reply
delete_reply s path = delete_of s.nodes (branch_at s.nodes path)

-- the node is gone, with its words and its stored pages
abbrev pub deleted : Store → Result Node Reply → Store
deleted s (Ok n) = record s {
  nodes = without_node s.nodes n.uid;
  words = without_words s.words n.uid 0;
  stored = without_stored s.stored n.uid (λ page. true);
}
deleted s (Err r) = s

unfoldable pub after_delete : Store → List (List ℕ) → Store
after_delete s path = deleted s (branch_at s.nodes path)
