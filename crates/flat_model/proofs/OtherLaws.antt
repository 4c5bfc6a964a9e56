-- What no command changes but its own.
use Rattle.flat_model.proofs.Prelude.{common_steps, nat_tests, ◌≡◌, ℕ, ℤ, ◌+◌, ◌≤◌, Bool, true, false, List, Option, Some, None, Result, Ok, Err, refl, arith, Mode, Named, Plan, Command, RefKind, Reference, reference_of, Reply, Row, Node, branch_at, changed, directory_at, node_at, parts_of, segment_at, effect_by, effect_of, effect_of_tree_command, after_delete, after_make, deleted, made_at, made_of, after_initiate, after_terminate, initiated, after_reference, written_by, after_acl, after_move, moved, after_length, after_truncate, truncated, Store, known_uid, command}

-- what numbers stand for, and how far processes have come, stay; at most one uid is given
pub record KeepsOthers (s t : Store) : Type 0 where
  pub known : t.known ≡ s.known
  pub processes : t.processes ≡ s.processes
  pub next : t.next ≤ s.next + 1

kept : (s : Store) → KeepsOthers s s
kept s = record { known = refl; processes = refl; next = omega arith }

made_keeps : (s : Store) (volume : ℕ) (dir : Bool) (pages : ℕ) (rows : List Row) (name : List ℕ) (r : Result Node Reply)
    → KeepsOthers s (made_at s volume dir pages rows name r)
made_keeps s volume dir pages rows name (Ok d) = record { known = refl; processes = refl; next = omega arith }
made_keeps s volume dir pages rows name (Err r) = kept s

parts_keep : (s : Store) (volume : ℕ) (dir : Bool) (pages : ℕ) (rows : List Row) (o : Option (List (List ℕ) × List ℕ))
    → KeepsOthers s (made_of s volume dir pages rows o)
parts_keep s volume dir pages rows None = kept s
parts_keep s volume dir pages rows (Some parts) = made_keeps s volume dir pages rows parts.1 (node_at s.nodes parts.0)

pub make_keeps : (s : Store) (path : List (List ℕ)) (volume : ℕ) (dir : Bool) (pages : ℕ) (rows : List Row)
    → KeepsOthers s (after_make s path volume dir pages rows)
unfolding after_make
make_keeps s path volume dir pages rows = parts_keep s volume dir pages rows (parts_of path)

-- by the node that a path leads to, or what refuses it
by_result : (s : Store) (after : Result Node Reply → Store) → ((n : Node) → KeepsOthers s (after (Ok n)))
    → ((r : Reply) → KeepsOthers s (after (Err r))) → (found : Result Node Reply) → KeepsOthers s (after found)
by_result s after ok err (Ok n) = ok n
by_result s after ok err (Err r) = err r

changed_keeps : (s : Store) (change : Node → Node) (r : Result Node Reply) → KeepsOthers s (changed s change r)
changed_keeps s change = by_result s (changed s change)
    (λ n. record { known = refl; processes = refl; next = omega arith }) (λ r. kept s)

pub acl_keeps : (s : Store) (path : List (List ℕ)) (row : Named) (m : Mode) → KeepsOthers s (after_acl s path row m)
unfolding after_acl
acl_keeps s path row m = changed_keeps s _ (segment_at s.nodes path)

pub length_keeps : (s : Store) (path : List (List ℕ)) (pages : ℕ) → KeepsOthers s (after_length s path pages)
unfolding after_length
length_keeps s path pages = changed_keeps s _ (segment_at s.nodes path)

pub truncate_keeps : (s : Store) (path : List (List ℕ)) (from : ℕ) → KeepsOthers s (after_truncate s path from)
unfolding after_truncate
truncate_keeps s path from = by_result s (truncated s from)
    (λ n. record { known = refl; processes = refl; next = omega arith }) (λ r. kept s) (segment_at s.nodes path)

pub delete_keeps : (s : Store) (path : List (List ℕ)) → KeepsOthers s (after_delete s path)
unfolding after_delete
delete_keeps s path = by_result s (deleted s) (λ n. record { known = refl; processes = refl; next = omega arith })
    (λ r. kept s) (branch_at s.nodes path)

pub move_keeps : (s : Store) (path : List (List ℕ)) (amount : ℤ) → KeepsOthers s (after_move s path amount)
unfolding after_move
move_keeps s path amount = by_result s (moved s amount)
    (λ n. record { known = refl; processes = refl; next = omega arith }) (λ r. kept s) (directory_at s.nodes path)

pub written_keeps : (s : Store) (offset : ℕ) (how : RefKind) (o : Option ℕ) → KeepsOthers s (written_by s offset how o)
written_keeps s offset how None = kept s
written_keeps s offset how (Some uid) = grind (arith, nat_tests, common_steps, kept)

-- ---- of each command

-- processes stay where they are, and at most one uid is given
pub record Advances (s t : Store) : Type 0 where
  pub processes : t.processes ≡ s.processes
  pub next : t.next ≤ s.next + 1

advance : (s t : Store) → KeepsOthers s t → Advances s t
advance s t k = record { processes = k.processes; next = k.next }

initiated_advances : (s : Store) (k : ℕ) (r : Result Node Reply) → Advances s (initiated s k r)
initiated_advances s k (Ok n) = record { processes = refl; next = omega arith }
initiated_advances s k (Err r) = record { processes = refl; next = omega arith }

initiate_advances : (s : Store) (k : ℕ) (path : List (List ℕ)) → Advances s (after_initiate s k path)
unfolding after_initiate
initiate_advances s k path = initiated_advances s k (segment_at s.nodes path)

terminate_advances : (s : Store) (k number : ℕ) → Advances s (after_terminate s k number)
unfolding after_terminate
terminate_advances s k number = record { processes = refl; next = omega arith }

reference_advances : (s : Store) (k : ℕ) (r : Reference) → Advances s (after_reference s k r)
unfolding after_reference
reference_advances s k r = advance s _ (written_keeps s r.offset r.kind (known_uid s k r.number))

tree_advances : (p : Plan) (s : Store) (k : ℕ) (c : Command) → Advances s (effect_of_tree_command p s k c)
tree_advances p s k (command.MkDir path volume) = advance s _ (make_keeps s path volume true 0 _)
tree_advances p s k (command.MkSeg path pages volume) = advance s _ (make_keeps s path volume false pages _)
tree_advances p s k (command.Initiate path) = initiate_advances s k path
tree_advances p s k (command.Terminate number) = terminate_advances s k number
tree_advances p s k (command.Acl path row m) = advance s _ (acl_keeps s path row m)
tree_advances p s k (command.Length path pages) = advance s _ (length_keeps s path pages)
tree_advances p s k (command.Truncate path words) = advance s _ (truncate_keeps s path words)
tree_advances p s k (command.Delete path) = advance s _ (delete_keeps s path)
tree_advances p s k (command.Move path amount) = advance s _ (move_keeps s path amount)
tree_advances p s k _ = advance s s (kept s)

by_reference : (p : Plan) (s : Store) (k : ℕ) (c : Command) (o : Option Reference) → Advances s (effect_by p s k c o)
by_reference p s k c (Some r) = reference_advances s k r
by_reference p s k c None = tree_advances p s k c

pub effect_advances : (p : Plan) (s : Store) (k : ℕ) (c : Command) → Advances s (effect_of p s k c)
effect_advances p s k c = by_reference p s k c (reference_of c)
