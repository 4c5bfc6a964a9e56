-- What the path of a command leads to, or why it is refused (Bensoussan, Clingen and Daley 1972).
use Rattle.std.specs.Prelude.{ℕ, if◌then◌else◌, List, [], ◌∷◌, Option, Some, None, Result, Ok, Err}
use Rattle.book.specs.declared.replies.Reply.{Reply}
use Rattle.book.specs.declared.replies.Reply.TheVariants as reply
use Rattle.tree_model.specs.Tree.{Node, Walk, LeadsTo, Missing, InSegment, node_in, walk_in, with_node}
use Rattle.flat_model.specs.Store.{Store}

abbrev pub there_or : Option Node → Result Node Reply
there_or None = Err reply.NoPath
there_or (Some n) = Ok n

abbrev pub walked : List Node → Walk → Result Node Reply
walked nodes (LeadsTo u) = there_or (node_in nodes u)
walked nodes Missing = Err reply.NoPath
walked nodes InSegment = Err reply.NotDir

-- the node that a path leads to: nopath or notdir by the first name from the left that can't be followed
unfoldable pub node_at : List Node → List (List ℕ) → Result Node Reply
node_at nodes path = walked nodes (walk_in nodes path)

abbrev pub only_segment : Result Node Reply → Result Node Reply
only_segment (Ok n) = if n.directory then Err reply.IsDir else Ok n
only_segment (Err r) = Err r

abbrev pub only_directory : Reply → Result Node Reply → Result Node Reply
only_directory refusal (Ok n) = if n.directory then Ok n else Err refusal
only_directory refusal (Err r) = Err r

-- a segment: isdir where it is a directory
abbrev pub segment_at : List Node → List (List ℕ) → Result Node Reply
segment_at nodes path = only_segment (node_at nodes path)

-- a node other than the root, which is refused first
abbrev pub branch_at : List Node → List (List ℕ) → Result Node Reply
branch_at nodes [] = Err reply.Root
branch_at nodes (name ∷ names) = node_at nodes (name ∷ names)

-- a directory other than the root: isseg where it is a segment
abbrev pub directory_at : List Node → List (List ℕ) → Result Node Reply
directory_at nodes path = only_directory reply.IsSeg (branch_at nodes path)

-- the names of a path before the last one, and the last one; the root's path has none
abbrev pub before_parts : List ℕ → Option (List (List ℕ) × List ℕ) → Option (List (List ℕ) × List ℕ)
before_parts name None = Some ([], name)
before_parts name (Some parts) = Some (name ∷ parts.0, parts.1)

abbrev pub parts_of : List (List ℕ) → Option (List (List ℕ) × List ℕ)
parts_of [] = None
parts_of (name ∷ names) = before_parts name (parts_of names)

-- the store with the node that a path led to changed
abbrev pub changed : Store → (Node → Node) → Result Node Reply → Store
changed s change (Ok n) = record s { nodes = with_node s.nodes n.uid change }
changed s change (Err r) = s

-- done, unless the path is refused
abbrev pub done_at : Result Node Reply → Reply
done_at (Ok n) = reply.Done
done_at (Err r) = r
