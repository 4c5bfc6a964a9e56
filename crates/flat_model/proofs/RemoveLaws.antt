-- A directory or a segment is taken out.
use Rattle.flat_model.proofs.Prelude.{common_steps, deletion_of, ◌≡◌, ◌≢◌, ℕ, Bool, true, false, cond, eqb, not, ◌&&◌, List, [], ◌∷◌, Some, None, Ok, Err, refl, ap, ◌∙◌, arith, count_by, nat_le, list_any, or_parts, nat_tests, sum_by-cons, Reply, Node, has_directory, is_inferior, node_in, taken_on, volume_in, without_node, has_segment, branch_at, takes_effect, without_branch, without_pages, after_delete, delete_reply, deleted, is_page, is_stored, Store, from_first}
use Rattle.flat_model.proofs.FieldLaws.{field_none, field_left}
use Rattle.flat_model.proofs.CountLaws.{count-cons}

-- ---- what is left of the nodes

pub node_gone : (ns : List Node) (u : ℕ) → node_in (without_node ns u) u ≡ None
node_gone [] u = refl
node_gone (n ∷ ns) u = grind (arith, nat_tests, common_steps, node_gone ns u)

pub segment_left : (ns : List Node) (u v : ℕ) → v ≢ u → has_segment (without_node ns u) v ≡ has_segment ns v
segment_left ns u v = field_left (λ (xs : List Node). has_segment xs v) (λ (x : Node). not x.directory) v
    (λ m xs. refl) ns u

pub volume_left : (ns : List Node) (u v : ℕ) → v ≢ u → volume_in (without_node ns u) v ≡ volume_in ns v
volume_left ns u v = field_left (λ (xs : List Node). volume_in xs v) (λ (x : Node). x.volume) v (λ m xs. refl) ns u

pub directory_left : (ns : List Node) (u v : ℕ) → v ≢ u → has_directory (without_node ns u) v ≡ has_directory ns v
directory_left ns u v = field_left (λ (xs : List Node). has_directory xs v) (λ (x : Node). x.directory) v
    (λ m xs. refl) ns u

pub directory_gone : (ns : List Node) (u : ℕ) → has_directory (without_node ns u) u ≡ false
directory_gone ns u = field_none (λ xs. has_directory xs u) (λ x. x.directory) u (λ m xs. refl) (without_node ns u)
    (node_gone ns u)

pub taken_left : (ns : List Node) (xs : List (ℕ × ℕ)) (u v : ℕ) → ((page : ℕ) → is_stored xs u page ≡ false)
    → taken_on (without_node ns u) xs v ≡ taken_on ns xs v
unfolding taken_on
taken_left ns [] u v none = refl
taken_left ns (x ∷ xs) u v none =
    let first : (eqb x.0 u && eqb x.1 x.1) ≡ false = (or_parts (is_page u x.1 x) (is_stored xs u x.1) (none x.1)).0 in
    let apart : x.0 ≢ u = grind (arith, nat_tests) in
    let rest = taken_left ns xs u v (λ page. (or_parts (is_page u page x) (is_stored xs u page) (none page)).1) in
    rw (
      count-cons (λ y. eqb (volume_in (without_node ns u) y.0) v) x xs,
      count-cons (λ y. eqb (volume_in ns y.0) v) x xs,
      volume_left ns u x.0 apart,
      rest,
    ) refl

pub none_counted : (xs : List (ℕ × ℕ)) (u : ℕ) → ((page : ℕ) → is_stored xs u page ≡ false)
    → count_by (λ x. eqb x.0 u) xs ≡ 0
none_counted [] u none = refl
none_counted (x ∷ xs) u none =
    let first : (eqb x.0 u && eqb x.1 x.1) ≡ false = (or_parts (is_page u x.1 x) (is_stored xs u x.1) (none x.1)).0 in
    let apart : eqb x.0 u ≡ false = grind (arith, nat_tests) in
    let rest = none_counted xs u (λ page. (or_parts (is_page u page x) (is_stored xs u page) (none page)).1) in
    sum_by-cons (λ (y : ℕ × ℕ). cond (eqb y.0 u) 1 0) x xs ∙ rw apart (omega (arith, rest))

-- ---- by its path

pub deleted_is : (s : Store) (u : ℕ)
    → record (without_pages s u (λ q. nat_le 0 q)) { nodes = without_node s.nodes u } ≡ without_branch s (Some u)
deleted_is s u = grind (arith, nat_tests, common_steps, from_first)

pub delete_refused : (s : Store) (path : List (List ℕ)) (r : Reply) → branch_at s.nodes path ≡ Err r
    → after_delete s path ≡ s
unfolding after_delete
delete_refused s path r found = ap (deleted s) found

pub delete_done : (s : Store) (path : List (List ℕ)) (n : Node) → branch_at s.nodes path ≡ Ok n
    → after_delete s path ≡ without_branch s (Some n.uid)
unfolding after_delete
delete_done s path n found = ap (deleted s) found

-- what is deleted has no inferior and no quota
pub deletion_asked : (full free : Bool) → takes_effect (deletion_of full free) ≡ true → (full ≡ false) × (free ≡ true)
deletion_asked true free effect = cc
deletion_asked false true effect = (refl, refl)
deletion_asked false false effect = cc

pub delete_asked : (s : Store) (path : List (List ℕ)) (n : Node) → branch_at s.nodes path ≡ Ok n
    → takes_effect (delete_reply s path) ≡ true
    → (list_any (is_inferior n.uid) s.nodes ≡ false) × (eqb n.quota 0 ≡ true)
unfolding delete_reply
delete_asked s path n found effect =
    deletion_asked (list_any (is_inferior n.uid) s.nodes) (eqb n.quota 0) (rw found at effect)
