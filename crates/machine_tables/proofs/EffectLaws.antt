-- A tree command that isn't refused takes effect, or tells what a node is like.
use Rattle.machine_tables.proofs.Prelude.{arith, ◌≡◌, ℕ, Bool, true, false, length, List, Option, Some, None, refl, Result, Ok, Err, Plan, Command, Reply, Node, branch_at, node_at, only_directory, parts_of, segment_at, reply_to_tree_command, takes_effect, delete_reply, make_at, make_of, make_reply, initiate_reply, terminate_reply, acl_reply, move_reply, length_reply, truncate_reply, Store, refusal, flat_of, refusal_of, reply_of, State, HasEffect, Command as command, Reply as reply}

-- whether a reply tells what a node is like
abbrev tells : Reply → Bool
tells (reply.SegIs uid length stored) = true
tells (reply.DirIs uid quota used) = true
tells _ = false

-- a reply that doesn't, and isn't a refusal, takes effect
effect : (r : Reply) → tells r ≡ false → refusal r ≡ None → takes_effect r ≡ true
effect r h1 h2 = grind arith

-- ---- what a path leads to

abbrev told : Result Node Reply → Bool
told (Ok n) = false
told (Err r) = tells r

node_quiet : (ns : List Node) (path : List (List ℕ)) → told (node_at ns path) ≡ false
unfolding node_at
node_quiet ns path = grind arith

segment_quiet : (ns : List Node) (path : List (List ℕ)) → told (segment_at ns path) ≡ false
segment_quiet ns path = grind (arith, node_quiet)

directory_quiet : (r : Reply) (x : Result Node Reply) → tells r ≡ false → told x ≡ false
    → told (only_directory r x) ≡ false
directory_quiet r x quiet h = grind arith

branch_quiet : (ns : List Node) (path : List (List ℕ)) → told (branch_at ns path) ≡ false
branch_quiet ns path = grind (arith, node_quiet)

-- ---- each command

make_quiet : (p : Plan) (s : Store) (v : ℕ) (dir : Bool) (parts : Option (List (List ℕ) × List ℕ))
    → tells (make_of p s v dir parts) ≡ false
make_quiet p s v dir None = refl
make_quiet p s v dir (Some parts) = by (only_directory reply.NotDir (node_at s.nodes parts.0))
    (directory_quiet reply.NotDir (node_at s.nodes parts.0) refl (node_quiet s.nodes parts.0))
  where
    by : (x : Result Node Reply) → told x ≡ false → tells (make_at p s v dir parts.1 x) ≡ false
    by x h = grind arith

had : (p : Plan) (s : Store) (k : ℕ) (x : Command) → refusal (reply_to_tree_command p s k x) ≡ None
    → HasEffect x (reply_to_tree_command p s k x)
unfolding make_reply initiate_reply terminate_reply acl_reply length_reply truncate_reply delete_reply move_reply
had p s k (command.MkDir path v) h = effect _ (make_quiet p s v true (parts_of path)) h
had p s k (command.MkSeg path pages v) h = effect _ (make_quiet p s v false (parts_of path)) h
had p s k (command.Initiate path) h = effect _ (grind (arith, segment_quiet s.nodes path)) h
had p s k (command.Terminate number) h = effect _ (grind arith) h
had p s k (command.Acl path row m) h = effect _ (grind (arith, segment_quiet s.nodes path)) h
had p s k (command.Length path pages) h = effect _ (grind (arith, segment_quiet s.nodes path)) h
had p s k (command.Truncate path words) h = effect _ (grind (arith, segment_quiet s.nodes path)) h
had p s k (command.Delete path) h = effect _ (grind (arith, branch_quiet s.nodes path)) h
had p s k (command.Move path amount) h =
    effect _ (grind (arith, directory_quiet reply.IsSeg (branch_at s.nodes path) refl (branch_quiet s.nodes path))) h
had p s k (command.Status path) h = tt
had p s k _ h = refl

pub effect_had : (s : State) (k : ℕ) (x : Command) → refusal_of s k x ≡ None → HasEffect x (reply_of s k x)
unfolding refusal_of reply_of
effect_had s k x h = had s.plan (flat_of s) k x h
