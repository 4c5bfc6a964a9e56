-- The names that the proofs of this crate take from elsewhere.
pub use Rattle.std.proofs.Common.{Bool, Err, List, None, Ok, Option, Result, Some, [], ap, arith, cond, eqb, false, get_or, if◌then◌else◌, inl, inr, is_some, length, map, not, refl, subst, sym, true, w32, ℕ, ◌+◌, ◌-◌, ◌<◌, ◌∙◌, ◌∷◌, ◌≡◌, ◌≢◌, ◌≤◌}
pub use Rattle.std.proofs.lemmas.Bool.{cases_Bool, cases_eq, eq-eqb, ne_eqb}
pub use Rattle.std.proofs.lemmas.Bool.Decides.{nat_tests}
pub use Rattle.std.proofs.lemmas.Grind.{common_steps}
pub use Rattle.std.proofs.lemmas.Int.{to_z-of_z}
pub use Rattle.std.proofs.lemmas.List.{length-map}
pub use Rattle.std.specs.Int.{is_positive}
pub use Rattle.std.specs.Int.RustNames.{unsigned_abs}
pub use Rattle.std.specs.Prelude.{IfNone, IfOk, IfSome, IsOk, IsTrue, OnErr, OnOk, ◌↔◌}
pub use Rattle.laws.proofs.Options.{none_there}
pub use Rattle.tree_model.proofs.TreeLaws.{directory_mapped, joined_below, quota_mapped}
pub use Rattle.tree_model.specs.Access.{Row, takes_row, with_row}
pub use Rattle.tree_model.specs.Quotas.{tree_moved}
pub use Rattle.tree_model.specs.Tree.{Node as Term, above, branch_in, has_directory, is_branch, node_in, quota_in as quota_at, step_up, with_node, without_node}
unfoldable pub use Rattle.tree_model.specs.Tree.{used_by}
pub use Rattle.tree_model.specs.Trees.{AreBelow, HasChains, IsTree, Joins, has_segment}
pub use Rattle.dir_tree.proofs.QuotaLemmas.{fault_any}
pub use Rattle.dir_tree.specs.Index.{no_node}
pub use Rattle.dir_tree.specs.Laws.{directory_shown as kind_of_directory, segment_shown as kind_of_segment, not_in_directory, segment_in, uid_shown}
pub use Rattle.dir_tree.specs.Nodes.{Branches, acl_of, add_fault_of, added, as_node, as_term, is_directory, is_in, is_segment, node_of, removed, unless, with_acl, with_changed, with_home, with_length, with_quotas, without}
pub use Rattle.dir_tree.specs.Shape.{shape, shapes}
pub use Rattle.dir_tree.specs.declared.node.NewNode.{NewNode}
pub use Rattle.dir_tree.specs.declared.node.Node.{Node}
pub use Rattle.quota_cells.proofs.ScratchLaws.{used_same}
pub use Rattle.quota_cells.specs.Accounts.{has, is_an_account, look, with_value}
pub use Rattle.quota_cells.specs.Cells.{AreWithin, CellMaps, Enters, Fits, IsTable, Leaves, quota_in, stored_in, used_in}
pub use Rattle.quota_cells.specs.Laws.{look_absent, on_directories, on_nodes, on_segments}
pub use Rattle.quota_cells.specs.Scratch.{charge_answer, scratch_answer}
pub use Rattle.accounts.specs.Maps.{AccountMaps, Changes, Counts, Gains, HasColumns, Loses, Recounts, Rehomes, accounts_of, branch_of, count_of, entry_of, rehomed, rows_in, with_row_in}
