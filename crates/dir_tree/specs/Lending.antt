-- What `acl_mut` lends.
use Rattle.std.specs.Prelude.{ℕ, List}
use Rattle.std.specs.Borrow.{Lends, MutBor, Fml}
use Rattle.tree_model.specs.Access.{Row}
use Rattle.acl.specs.contracts.Acl.{the_row as acl_row}
use Rattle.dir_tree.specs.Nodes.{Branches, with_acl}
use Rattle.dir_tree.specs.contracts.Tree.{the_row}

-- the tree ends with the last list that was left after the reference
abbrev pub LendsAcl : MutBor Branches → ℕ → MutBor (List Row) → Fml
LendsAcl t uid acl = Lends the_row acl_row t acl (with_acl t.now uid)
