-- The names that the proofs of this crate take from elsewhere.
pub use Rattle.std.proofs.Common.{[], ap, arith, Bool, cond, eqb, false, inl, inr, is_some, length, List, map, None, not, Option, refl, Some, subst, suc, sym, true, zero, ℕ, ◌++◌, ◌<◌, ◌∙◌, ◌∷◌, ◌≡◌, ◌≢◌, ◌≤◌, ◌⊎◌}
pub use Rattle.std.proofs.lemmas.Bool.{and_parts, both_ways, cases_Bool, cases_eq, eq-eqb, eqb-true, ne_eqb, or_parts, true_from_ne_false}
pub use Rattle.std.proofs.lemmas.Bool.Decides.{eqb_tells, nat_tests}
pub use Rattle.std.proofs.lemmas.Option.{same_Some}
pub use Rattle.std.proofs.lemmas.Slice.Eq.{bytes_eq-Decides}
pub use Rattle.std.specs.List.{filter, find, list_any}
pub use Rattle.std.specs.Option.{option_and_then, option_map}
pub use Rattle.std.specs.Str.{bytes_eq}
pub use Rattle.tree_model.specs.Quotas.{least_where}
pub use Rattle.tree_model.specs.Tree.{above, branch_in, has_directory, is_branch, is_inferior, is_superior, Node, node_in, quota_in, step_up, Node as Term, without_node}
pub use Rattle.tree_model.specs.Trees.{AreBelow, AreDirectories, AreUnder, EndsAtRoot, HasChains, IsBranch, IsChain, IsTree, Joins}
