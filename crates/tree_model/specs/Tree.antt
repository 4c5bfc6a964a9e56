-- The directory tree, the accounts in it, and their counts from scratch (Bensoussan, Clingen and
-- Daley 1972; Organick 1972).
use Rattle.std.specs.Prelude.{ℕ, Bool, true, false, ◌&&◌, ◌||◌, not, ◌==◌, nat_le, if◌then◌else◌, count_by, map, List, [], ◌∷◌, Option, Some, None}
use Rattle.std.specs.List.{filter}
use Rattle.std.specs.Str.{bytes_eq}
use Rattle.tree_model.specs.Access.{Row}

-- a directory or a segment: its unique identifier; the directory above it, none for the root; its
-- name there; its volume, counted from 0; a segment's length in pages and access control list; a
-- directory's quota in pages, 0 where it has no account of its own
pub record Node : Type 0 where
  pub uid : ℕ
  pub superior : Option ℕ
  pub name : List ℕ
  pub directory : Bool
  pub volume : ℕ
  pub pages : ℕ
  pub quota : ℕ
  pub rows : List Row

-- A tree is the list of its nodes, the newest first; the root is the last, with uid 1. So the node
-- above another stands behind it.

-- the node of a uid
abbrev pub node_in : List Node → ℕ → Option Node
node_in [] u = None
node_in (n ∷ ns) u = if n.uid == u then Some n else node_in ns u

-- a node lies in a directory, under a name
abbrev pub is_branch : ℕ → List ℕ → Node → Bool
is_branch directory name n = is_below directory n.superior && bytes_eq n.name name
  where
    is_below : ℕ → Option ℕ → Bool
    is_below d None = false
    is_below d (Some s) = s == d

-- the node of a name in a directory
abbrev pub branch_in : List Node → ℕ → List ℕ → Option Node
branch_in [] directory name = None
branch_in (n ∷ ns) directory name = if is_branch directory name n then Some n else branch_in ns directory name

-- whether a uid is that of a directory
abbrev pub has_directory : List Node → ℕ → Bool
has_directory [] u = false
has_directory (n ∷ ns) u = if n.uid == u then n.directory else has_directory ns u

-- whether this directory is the superior
abbrev pub is_superior : ℕ → Option ℕ → Bool
is_superior directory None = false
is_superior directory (Some s) = s == directory

-- whether a node lies in a directory
abbrev pub is_inferior : ℕ → Node → Bool
is_inferior directory n = is_superior directory n.superior

-- Where a path leads: to a node; or it can't be followed, since a directory on it lacks the next name, or since the
-- next name would be looked up in a segment.
pub data Walk : Type 0 where
  LeadsTo : (uid : ℕ) → Walk
  Missing : Walk
  InSegment : Walk

-- from a node on, where the next name was looked up
abbrev pub onward : (Node → Walk) → Bool → Option Node → Walk
onward go false found = InSegment
onward go true None = Missing
onward go true (Some n) = go n

-- where names lead from a node, which is a directory or a segment
abbrev pub walk_from : List Node → ℕ → Bool → List (List ℕ) → Walk
walk_from nodes u directory [] = LeadsTo u
walk_from nodes u directory (name ∷ names) = onward (λ n. walk_from nodes n.uid n.directory names) directory
    (branch_in nodes u name)

-- where a path leads, from the root on
abbrev pub walk_in : List Node → List (List ℕ) → Walk
walk_in nodes path = walk_from nodes 1 true path

abbrev pub step_up : (ℕ → List ℕ) → Option ℕ → List ℕ
step_up f None = []
step_up f (Some s) = s ∷ f s

-- the directories above a node, the nearest first
abbrev pub above : List Node → ℕ → List ℕ
above [] u = []
above (n ∷ ns) u = if n.uid == u then step_up (above ns) n.superior else above ns u

-- the quota of a node, 0 where it isn't there
abbrev pub quota_in : List Node → ℕ → ℕ
quota_in [] u = 0
quota_in (n ∷ ns) u = if n.uid == u then n.quota else quota_in ns u

-- the volume of a node, 0 where it isn't there
abbrev pub volume_in : List Node → ℕ → ℕ
volume_in [] u = 0
volume_in (n ∷ ns) u = if n.uid == u then n.volume else volume_in ns u

-- the first of some directories with a quota, else the root
abbrev pub account : (ℕ → ℕ) → List ℕ → ℕ
account quota [] = 1
account quota (d ∷ ds) = if quota d == 0 then account quota ds else d

-- the account that a segment's pages are charged to
abbrev pub account_of : List Node → ℕ → ℕ
account_of nodes segment = account (quota_in nodes) (above nodes segment)

-- the stored pages, as pairs of a uid and a page, that an account is charged for
unfoldable pub used_by : List Node → List (ℕ × ℕ) → ℕ → ℕ
used_by nodes stored a = count_by (λ x. account_of nodes x.0 == a) stored

-- the stored pages on a volume, each in a record of it
unfoldable pub taken_on : List Node → List (ℕ × ℕ) → ℕ → ℕ
taken_on nodes stored volume = count_by (λ x. volume_in nodes x.0 == volume) stored

-- the nodes on a volume, each with a VTOC entry of it
unfoldable pub entries_on : List Node → ℕ → ℕ
entries_on nodes volume = count_by (λ n. n.volume == volume) nodes

-- the root, and each directory with a quota
abbrev pub is_account : Node → Bool
is_account n = n.directory && (n.uid == 1 || not (n.quota == 0))

-- the nodes with that of a uid changed
abbrev pub with_node : List Node → ℕ → (Node → Node) → List Node
with_node nodes u change = map (λ n. if n.uid == u then change n else n) nodes

-- the nodes without that of a uid
abbrev pub without_node : List Node → ℕ → List Node
without_node nodes u = filter (λ n. not (n.uid == u)) nodes

-- the pool of the active segment table that has the page table of so many pages: of 4, 16, 64 or 256 (own)
abbrev pub pool_for : ℕ → ℕ
pool_for pages = if nat_le pages 4 then 0 else if nat_le pages 16 then 1 else if nat_le pages 64 then 2 else 3

-- a directory's page table has 4 places, a segment's the least that hold its length
abbrev pub pool_of : Node → ℕ
pool_of n = if n.directory then 0 else pool_for n.pages
