-- What is read of a node that is there.
use Rattle.tree_commands.proofs.Prelude.{◌≡◌, ℕ, List, Some, None, sym, ap, refl, rows_in, Node, node_in, pages_in, pages_of, field_found}

pub rows_found : (ns : List Node) (u : ℕ) (n : Node) → node_in ns u ≡ Some n → rows_in ns u ≡ n.rows
rows_found ns u n e = sym (field_found (λ ms. rows_in ms u) (λ x. x.rows) u (λ m ms. refl) ns n e)

pub pages_found : (ns : List Node) (u : ℕ) (n : Node) → node_in ns u ≡ Some n → n.pages ≡ pages_in ns u
pages_found ns u n e = ap pages_of (sym e)

pub no_pages : (ns : List Node) (u : ℕ) → node_in ns u ≡ None → pages_in ns u ≡ 0
no_pages ns u e = ap pages_of e
