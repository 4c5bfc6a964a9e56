-- The names that the proofs of this crate take from elsewhere.
pub use Rattle.std.proofs.Common.{Bool, Err, List, None, Ok, Option, Result, Some, ap, cond, eqb, false, is_ok, length, not, pos, refl, subst, sym, true, w32, ℕ, ℤ, ◌∙◌, ◌≡◌, ◌≤◌}
pub use Rattle.std.proofs.lemmas.Bool.{ne_eqb}
pub use Rattle.std.proofs.lemmas.Int.{to_z-of_z}
pub use Rattle.std.specs.Int.{is_positive}
pub use Rattle.std.specs.Int.RustNames.{unsigned_abs}
pub use Rattle.std.specs.Prelude.{nat_lt}
pub use Rattle.std.specs.Result.{is_err}
pub use Rattle.mnames.specs.declared.rows.Row.{Row as Named}
pub use Rattle.book.specs.declared.replies.Reply.{Reply}
pub use Rattle.tree_model.proofs.SharedLaws.{found_uid}
pub use Rattle.tree_model.specs.Access.{takes_row}
pub use Rattle.tree_model.specs.Quotas.{giver_of, tree_moved}
unfoldable pub use Rattle.tree_model.specs.Quotas.{over_in}
pub use Rattle.tree_model.specs.Tree.{InSegment, LeadsTo, Missing, Node, Walk, above, node_in, quota_in, walk_in}
unfoldable pub use Rattle.tree_model.specs.Tree.{used_by}
pub use Rattle.dir_tree.specs.Nodes.{as_term, has_inferior, path_answer}
pub use Rattle.quota_cells.specs.Cells.{over_answer}
pub use Rattle.quota_cells.specs.Scratch.{scratch_answer}
pub use Rattle.quota_cells.specs.declared.MoveFault.{MoveFault}
pub use Rattle.accounts.specs.Maps.{rows_in}
pub use Rattle.flat_model.proofs.FieldLaws.{field_found}
pub use Rattle.flat_model.proofs.PathRefusals.{directory_refuses, segment_refuses}
pub use Rattle.flat_model.proofs.QuotaLaws.{move_of_none, nothing_moved}
pub use Rattle.flat_model.proofs.TreeLaws.{apart_shown}
pub use Rattle.flat_model.proofs.TreeReplies.{acl_refused, acl_told, delete_refused, delete_told, from_false, make_in_segment, make_refused, make_root, make_told, move_refused, status_directory, status_refused, status_segment, truncate_refused, truncate_told}
pub use Rattle.flat_model.specs.Branches.{directory_at, there_or, walked}
unfoldable pub use Rattle.flat_model.specs.Branches.{node_at}
pub use Rattle.flat_model.specs.Rights.{done_or_over, nodes_moved}
unfoldable pub use Rattle.flat_model.specs.Rights.{move_reply}
pub use Rattle.flat_model.specs.Store.{Store}
pub use Rattle.tree_commands.specs.Shown.{ShowsTree, pages_in, pages_of}
