-- A fact of the node that a path leads to, by its uid.
use Rattle.std.proofs.lemmas.Grind.{common_steps}
use Rattle.custody.proofs.Prelude.{arith, nat_tests, ◌≡◌, ℕ, Bool, true, Option, Some, None, Result, Ok, Err, refl, sym, ◌∙◌, Decides, Reply, Node, OfNode, uid_at, pool_at, superior_at, use_in}

pub node_decides : (P : ℕ → Type 0) (o : Result Node Reply) (found : Option ℕ) (u : ℕ) (r : Bool) → found ≡ uid_at o
    → found ≡ Some u → Decides r (P u) → Decides r (OfNode (λ n. P n.uid) o)
node_decides P (Ok n) found u r is some d = let clash : Some u ≡ Some n.uid = sym some ∙ is in
    let same : u ≡ n.uid = cc in rw (← same) d
node_decides P (Err e) found u r is some d = cc

pub no_node_decides : (P : ℕ → Type 0) (o : Result Node Reply) (found : Option ℕ) → found ≡ uid_at o → found ≡ None
    → Decides true (OfNode (λ n. P n.uid) o)
no_node_decides P (Ok n) found is none = cc
no_node_decides P (Err e) found is none = (λ q. tt, λ q. refl)

-- what the looks at its superior and its pool tell of a node
pub node_found : (o : Option Node) (superior pool : Option ℕ) (p : ℕ) → superior ≡ superior_at o → pool ≡ pool_at o
    → pool ≡ Some p → Some (record { superior = superior; pool = p }) ≡ use_in o
node_found None superior pool p e f g = cc
node_found (Some n) superior pool p e f g = grind (arith, nat_tests, common_steps)

pub no_node : (o : Option Node) (pool : Option ℕ) → pool ≡ pool_at o → pool ≡ None → None ≡ use_in o
no_node None pool f g = refl
no_node (Some n) pool f g = let clash : None ≡ pool_at (Some n) = sym g ∙ f in cc
