-- What a path leads to, by the walk along it.
use Rattle.tree_commands.proofs.Prelude.{◌≡◌, ℕ, List, Some, Ok, Err, refl, sym, ap, ◌∙◌, Node, Walk, LeadsTo, Missing, InSegment, node_in, walk_in, path_answer, walked, node_at, there_or, found_uid}
use Rattle.book.specs.declared.replies.Reply.TheVariants as reply
use Rattle.dir_tree.specs.declared.node.PathFault.TheVariants as path_fault

leads : (nodes : List Node) (w : Walk) (u : ℕ) (n : Node) → Ok u ≡ path_answer w → node_in nodes u ≡ Some n
    → walked nodes w ≡ Ok n
leads nodes (LeadsTo v) u n e found = (let same : u ≡ v = cc in
    ap (λ (x : ℕ). there_or (node_in nodes x)) (sym same) ∙ ap there_or found)
leads nodes Missing u n e found = cc
leads nodes InSegment u n e found = cc

pub walked_to : (nodes : List Node) (path : List (List ℕ)) (u : ℕ) (n : Node) → Ok u ≡ path_answer (walk_in nodes path)
    → node_in nodes u ≡ Some n
    → node_at nodes path ≡ Ok n
unfolding node_at
walked_to nodes path u n e found = leads nodes (walk_in nodes path) u n e found

missing : (nodes : List Node) (w : Walk) → Err path_fault.NoPath ≡ path_answer w → walked nodes w ≡ Err reply.NoPath
missing nodes (LeadsTo v) e = cc
missing nodes Missing e = refl
missing nodes InSegment e = cc

pub walked_nowhere : (nodes : List Node) (path : List (List ℕ))
    → Err path_fault.NoPath ≡ path_answer (walk_in nodes path)
    → node_at nodes path ≡ Err reply.NoPath
unfolding node_at
walked_nowhere nodes path e = missing nodes (walk_in nodes path) e

in_segment : (nodes : List Node) (w : Walk) → Err path_fault.NotDir ≡ path_answer w → walked nodes w ≡ Err reply.NotDir
in_segment nodes (LeadsTo v) e = cc
in_segment nodes Missing e = cc
in_segment nodes InSegment e = refl

pub walked_past : (nodes : List Node) (path : List (List ℕ)) → Err path_fault.NotDir ≡ path_answer (walk_in nodes path)
    → node_at nodes path ≡ Err reply.NotDir
unfolding node_at
walked_past nodes path e = in_segment nodes (walk_in nodes path) e

-- what a walk tells of the node that a path leads to
pub ruleset walk_laws = (walked_to, walked_nowhere, walked_past, found_uid)
