-- The nodes with their quotas are a tree, as they are without.
use Rattle.accounts.proofs.Prelude.{◌≡◌, ℕ, Bool, true, false, cond, eqb, List, [], ◌∷◌, Option, Some, None, refl, ap, Term, above, branch_in, is_branch, step_up, AreBelow, IsTree, Joins, Node, as_term, with_quotas, shape, shapes, directory_mapped}

above_any : (q : ℕ → ℕ) (ns : List Node) (u : ℕ) → above (with_quotas q ns) u ≡ above (shapes ns) u
above_any q [] u = refl
above_any q (n ∷ ns) u = ap (λ (f : ℕ → List ℕ). cond (eqb n.uid u) (step_up f n.superior) (f u))
    (λ i. λ v. above_any q ns v i)

pub later_any : (q : ℕ → ℕ) (ns : List Node) (u : ℕ) → AreBelow u (shapes ns) → AreBelow u (with_quotas q ns)
later_any q [] u h = tt
later_any q (n ∷ ns) u h = (h.0, later_any q ns u h.1)

new_any : (q : ℕ → ℕ) (ns : List Node) (d : ℕ) (name : List ℕ) → branch_in (shapes ns) d name ≡ None
    → branch_in (with_quotas q ns) d name ≡ None
new_any q [] d name e = refl
new_any q (n ∷ ns) d name e = here (is_branch d name (shape n)) e (new_any q ns d name)
  where
    here : (z : Bool) → cond z (Some (shape n)) (branch_in (shapes ns) d name) ≡ None
        → (branch_in (shapes ns) d name ≡ None → branch_in (with_quotas q ns) d name ≡ None)
        → cond z (Some (as_term q n)) (branch_in (with_quotas q ns) d name) ≡ None
    here true is ih = cc
    here false is ih = ih is

empty_any : (q : ℕ → ℕ) (ns : List Node) → shapes ns ≡ [] → with_quotas q ns ≡ []
empty_any q [] e = refl
empty_any q (n ∷ ns) e = cc

joins_any : (q : ℕ → ℕ) (ns : List Node) (n : Node) (o : Option ℕ) → Joins (shapes ns) o (shape n)
    → Joins (with_quotas q ns) o (as_term q n)
joins_any q ns n None root = assumption (empty_any q ns root.first)
joins_any q ns n (Some s) branch = record {
  later = later_any q ns n.uid branch.later;
  below = cc (directory_mapped (as_term q) shape (λ n. refl) (λ n. refl) ns s);
  new = new_any q ns s n.name branch.new;
  shallow = λ directory. rw (above_any q ns s) (branch.shallow directory);
}

tree_any : (q : ℕ → ℕ) (ns : List Node) → IsTree (shapes ns) → IsTree (with_quotas q ns)
tree_any q [] t = tt
tree_any q (n ∷ ns) t = (joins_any q ns n n.superior t.0, tree_any q ns t.1)

pub tree_shown : (q : ℕ → ℕ) (ns : List Node) {now : List Term} → with_quotas q ns ≡ now → IsTree (shapes ns)
    → IsTree now
tree_shown q ns is t = rw (← is) (tree_any q ns t)
