-- Laws of uids and kinds, for the proofs of the crates above too.
use Rattle.std.specs.Prelude.{◌≡◌, ◌<◌, ◌≤◌, ◌+◌, ◌-◌, ℕ, Bool, true, false, ◌||◌, ◌&&◌, not, is_some, List, [], ◌∷◌, map}
use Rattle.std.proofs.Common.{arith, cond, eqb, refl, sym, ap, ◌∙◌, inl, inr}
use Rattle.std.proofs.lemmas.Bool.{cases_Bool, cases_order, or_left, or_right, or_parts}
use Rattle.tree_model.specs.Tree.{Node as Term, above, step_up, node_in, has_directory}
use Rattle.tree_model.specs.Trees.{has_segment}
use Rattle.dir_tree.specs.declared.node.Node.{Node}
use Rattle.dir_tree.specs.Nodes.{with_quotas, is_in, is_directory, is_segment}
use Rattle.dir_tree.specs.Shape.{shape, shapes}

-- however a node is shown, as long as its uid and its kind are its own
module _ (show : Node → Term) (uid : (n : Node) → (show n).uid ≡ n.uid)
    (kind : (n : Node) → (show n).directory ≡ n.dir) where
  pub directory_shown : (ns : List Node) (u : ℕ) → has_directory (map show ns) u ≡ is_directory ns u
  directory_shown [] u = refl
  directory_shown (n ∷ ns) u = rw (uid n) (elim (cases_Bool (eqb n.uid u))
      [ inl is ↦ rw is (kind n) | inr isnt ↦ rw isnt (directory_shown ns u) ])

  pub segment_shown : (ns : List Node) (u : ℕ) → has_segment (map show ns) u ≡ is_segment ns u
  segment_shown [] u = refl
  segment_shown (n ∷ ns) u = rw (uid n) (elim (cases_Bool (eqb n.uid u))
      [ inl is ↦ rw is (ap not (kind n)) | inr isnt ↦ rw isnt (segment_shown ns u) ])

  pub uid_shown : (ns : List Node) (u : ℕ) → is_some (node_in (map show ns) u) ≡ is_in ns u
  uid_shown [] u = refl
  uid_shown (n ∷ ns) u = rw (uid n) (elim (cases_Bool (eqb n.uid u))
      [ inl is ↦ rw is refl | inr isnt ↦ rw isnt (uid_shown ns u) ])

-- as shapes
pub directory_shape : (ns : List Node) (u : ℕ) → has_directory (shapes ns) u ≡ is_directory ns u
directory_shape = directory_shown shape (λ n. refl) (λ n. refl)

pub segment_shape : (ns : List Node) (u : ℕ) → has_segment (shapes ns) u ≡ is_segment ns u
segment_shape = segment_shown shape (λ n. refl) (λ n. refl)

pub uid_shape : (ns : List Node) (u : ℕ) → is_some (node_in (shapes ns) u) ≡ is_in ns u
uid_shape = uid_shown shape (λ n. refl) (λ n. refl)

-- a node is a directory or a segment, and not both
pub one_kind : (ns : List Node) (u : ℕ) → (is_directory ns u || is_segment ns u) ≡ is_in ns u
one_kind [] u = refl
one_kind (n ∷ ns) u = elim (cases_Bool (eqb n.uid u)) [
  | inl is ↦ rw is (elim (cases_Bool n.dir) [ inl d ↦ rw d refl | inr s ↦ rw s refl ])
  | inr isnt ↦ rw isnt (one_kind ns u)
]

pub kinds_apart : (ns : List Node) (u : ℕ) → (is_directory ns u && is_segment ns u) ≡ false
kinds_apart [] u = refl
kinds_apart (n ∷ ns) u = elim (cases_Bool (eqb n.uid u)) [
  | inl is ↦ rw is (elim (cases_Bool n.dir) [ inl d ↦ rw d refl | inr s ↦ rw s refl ])
  | inr isnt ↦ rw isnt (kinds_apart ns u)
]

pub directory_in : (ns : List Node) (u : ℕ) → is_directory ns u ≡ true → is_in ns u ≡ true
directory_in ns u is = sym (one_kind ns u) ∙ or_left (is_directory ns u) (is_segment ns u) is

pub segment_in : (ns : List Node) (u : ℕ) → is_segment ns u ≡ true → is_in ns u ≡ true
segment_in ns u is = sym (one_kind ns u) ∙ or_right (is_directory ns u) (is_segment ns u) is

pub not_in_directory : (ns : List Node) (u : ℕ) → is_in ns u ≡ false → is_directory ns u ≡ false
not_in_directory ns u off = (or_parts (is_directory ns u) (is_segment ns u) (one_kind ns u ∙ off)).0

pub not_in_segment : (ns : List Node) (u : ℕ) → is_in ns u ≡ false → is_segment ns u ≡ false
not_in_segment ns u off = (or_parts (is_directory ns u) (is_segment ns u) (one_kind ns u ∙ off)).1

pub segment_not : (ns : List Node) (u : ℕ) → is_segment ns u ≡ true → is_directory ns u ≡ false
segment_not ns u is = not_both (is_directory ns u) (is_segment ns u) (kinds_apart ns u) is
  where
    not_both : (a b : Bool) → (a && b) ≡ false → b ≡ true → a ≡ false
    not_both false b apart is = refl
    not_both true b apart is = sym is ∙ apart

-- what is above a node doesn't depend on quotas, nor on what may change
pub above_any : (q : ℕ → ℕ) (ns : List Node) (u : ℕ) → above (with_quotas q ns) u ≡ above (shapes ns) u
above_any q [] u = refl
above_any q (n ∷ ns) u = ap (λ (f : ℕ → List ℕ). cond (eqb n.uid u) (step_up f n.superior) (f u))
    (λ i. λ v. above_any q ns v i)

-- ---- lists that one more comes into

-- where a place of the longer list stands: before the new one, on it, or after it, where it is one further
pub data Where (k i : ℕ) : Type 0 where
  Before : k < i → Where k i
  Here : k ≡ i → Where k i
  After : (j : ℕ) → k ≡ j + 1 → i ≤ j → Where k i

pub where_is : (k i : ℕ) → Where k i
where_is k i = elim (cases_order k i) [
  | inl same ↦ Here same
  | inr differ ↦ elim differ [ inl lt ↦ Before lt | inr gt ↦ After (k - 1) (omega arith) (omega arith) ]
]
