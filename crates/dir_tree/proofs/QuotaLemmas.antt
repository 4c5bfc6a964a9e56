-- Where a path leads, what is above a node and what keeps a branch from being added don't depend on quotas, nor on
use Rattle.dir_tree.proofs.Prelude.{common_steps, ◌≡◌, ℕ, ◌+◌, Bool, true, false, eqb, List, [], ◌∷◌, length, Option, Some, None, Ok, refl, ap, ◌∙◌, is_some, get_or, drop, ◌<◌, ◌≤◌, ◌&&◌, nat_le, cond, arith, inl, inr, find, option_map, cases_Bool, length-map, at_drop_more, at_drop_all, Term, Walk, LeadsTo, node_in, branch_in, is_branch, onward, above, walk_from, walk_in, Node, above_any, as_term, node_of, with_quotas, add_fault_of, has_inferior, unless, shape, shapes, IsTree, superior_in, find_map, branch_found, none_mapped, nat_tests, add_fault}

-- anything but uids, superiors, names and kinds.

pub node_any : (q : ℕ → ℕ) (ns : List Node) (u : ℕ) → node_in (with_quotas q ns) u
    ≡ option_map (as_term q) (node_of ns u)
node_any q [] u = refl
node_any q (n ∷ ns) u = elim (cases_Bool (eqb n.uid u)) [ inl is ↦ rw is refl | inr isnt ↦ rw isnt (node_any q ns u) ]

-- the superior of a node that is found
pub superior_is : (ns : List Node) (u : ℕ) (n : Node) → node_of ns u ≡ Some n → superior_in (shapes ns) u ≡ n.superior
superior_is ns u n e = cc (find_map (λ n. eqb n.uid u) shape ns)

-- the root is in each tree that has a node
pub root_there : (ns : List Node) → IsTree (shapes ns) → 0 < length ns → is_some (node_of ns 1) ≡ true
root_there [] t some = absurd (omega arith)
root_there (n ∷ []) t some = grind (arith, nat_tests, common_steps)
root_there (n ∷ m ∷ ms) t some = elim (cases_Bool (eqb n.uid 1))
    [ inl is ↦ rw is refl | inr isnt ↦ rw isnt (root_there (m ∷ ms) t.1 (omega arith)) ]

branch_any : (q : ℕ → ℕ) (ns : List Node) (d : ℕ) (name : List ℕ)
    → branch_in (with_quotas q ns) d name ≡ option_map (as_term q) (find (λ n. is_branch d name (shape n)) ns)
branch_any q ns d name = branch_found d name (with_quotas q ns) ∙ find_map (is_branch d name) (as_term q) ns

pub branch_shape : (ns : List Node) (d : ℕ) (name : List ℕ) → branch_in (shapes ns) d name
    ≡ option_map shape (find (λ n. is_branch d name (shape n)) ns)
branch_shape ns d name = branch_found d name (shapes ns) ∙ find_map (is_branch d name) shape ns

onward_any : (q : ℕ → ℕ) (f g : Term → Walk) → ((n : Node) → f (as_term q n) ≡ g (shape n))
    → (b : Bool) (o : Option Node) → onward f b (option_map (as_term q) o) ≡ onward g b (option_map shape o)
onward_any q f g same false o = refl
onward_any q f g same true None = refl
onward_any q f g same true (Some n) = same n

walk_any_from : (q : ℕ → ℕ) (ns : List Node) (u : ℕ) (b : Bool) (path : List (List ℕ))
    → walk_from (with_quotas q ns) u b path ≡ walk_from (shapes ns) u b path
walk_any_from q ns u b [] = refl
walk_any_from q ns u b (name ∷ names) = rw (branch_any q ns u name, branch_shape ns u name)
    (onward_any q (λ n. walk_from (with_quotas q ns) n.uid n.directory names)
    (λ n. walk_from (shapes ns) n.uid n.directory names)
    (λ n. walk_any_from q ns n.uid n.dir names) b (find (λ n. is_branch u name (shape n)) ns))

pub walk_any : (q : ℕ → ℕ) (ns : List Node) (path : List (List ℕ)) → walk_in (with_quotas q ns) path
    ≡ walk_in (shapes ns) path
walk_any q ns path = walk_any_from q ns 1 true path

pub named_any : (q : ℕ → ℕ) (ns : List Node) (d : ℕ) (name : List ℕ) → is_some (branch_in (with_quotas q ns) d name)
    ≡ is_some (branch_in (shapes ns) d name)
named_any q ns d name = grind (arith, nat_tests, common_steps, branch_any, none_mapped, branch_shape)

pub fault_any : (q : ℕ → ℕ) (ns : List Node) (d : ℕ) (name : List ℕ) (b : Bool)
    → add_fault_of (with_quotas q ns) d name b ≡ add_fault_of (shapes ns) d name b
fault_any q ns d name b = rw (named_any q ns d name, above_any q ns d, length-map ns (as_term q), length-map ns shape)
    refl

-- whether a branch may be added, by what is looked up
pub fault_by : (q : ℕ → ℕ) (ns : List Node) (d : ℕ) (name : List ℕ) (dir : Bool) {here deep full : Bool}
    → is_some (branch_in (shapes ns) d name) ≡ here
    → (dir && nat_le 8 (length (above (shapes ns) d))) ≡ deep → nat_le 4097 (length ns) ≡ full
    → add_fault_of (with_quotas q ns) d name dir
    ≡ cond here (Some add_fault.Exists) (cond deep (Some add_fault.Deep) (cond full (Some add_fault.Room) None))
fault_by q ns d name dir is_here is_deep is_full = fault_any q ns d name dir
    ∙ rw (is_here, is_deep, ap (nat_le 4097) (length-map ns shape) ∙ is_full) refl

pub inferior_any : (q : ℕ → ℕ) (ns : List Node) (u : ℕ) → has_inferior (with_quotas q ns) u ≡ has_inferior (shapes ns) u
inferior_any q [] u = refl
inferior_any q (n ∷ ns) u = cc (inferior_any q ns u)

-- one more name of a path
pub walk_next : (ns : List Term) (u : ℕ) (b : Bool) (names : List (List ℕ)) (i : ℕ) (name : List ℕ) → i < length names
    → name ≡ get_or names i name
    → walk_from ns u b (drop i names) ≡ onward (λ n. walk_from ns n.uid n.directory (drop (i + 1) names)) b
    (branch_in ns u name)
walk_next ns u b names i name lt read = cc (at_drop_more (λ (path : List (List ℕ)). walk_from ns u b path) names i name
    lt)

pub walk_ends : (ns : List Term) (u : ℕ) (b : Bool) (names : List (List ℕ)) (i : ℕ) → length names ≤ i
    → walk_from ns u b (drop i names) ≡ LeadsTo u
walk_ends ns u b names i le = at_drop_all (λ (path : List (List ℕ)). walk_from ns u b path) names i le

pub unless_none : {E A : Type 0} (o : Option E) (x y : A) → unless o x ≡ Ok y → o ≡ None
unless_none None x y e = refl
unless_none (Some f) x y e = cc
