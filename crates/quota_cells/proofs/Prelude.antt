-- The names that the proofs of this crate take from elsewhere.
pub use Rattle.std.proofs.Common.{Bool, Err, List, None, Ok, Option, Result, Some, [], ap, arith, cond, drop, eqb, false, get_or, if◌then◌else◌, inl, inr, leb, length, ltb, map, not, refl, replicate, rules, set, subst, suc, sym, true, vec_capacity, w32, zero, ℕ, ◌&&◌, ◌++◌, ◌+◌, ◌-◌, ◌<◌, ◌^◌, ◌||◌, ◌∙◌, ◌∷◌, ◌≡◌, ◌≢◌, ◌≤◌, ◌⊎◌}
pub use Rattle.std.proofs.lemmas.Bool.{and_from, and_parts, both_ways, cases_Bool, cases_eq, cases_lt, cases_order, eq-eqb, eqb-false, eqb-true, false_from_ne_true, le-leb, le-ltb, lt-leb, lt-ltb, ltb-true, ne_eqb, not-true, not_from_false, or_cases, or_left, or_parts, or_right, true_from_ne_false}
pub use Rattle.std.proofs.lemmas.Bool.Decides.{nat_tests}
pub use Rattle.std.proofs.lemmas.Grind.{common_steps}
pub use Rattle.std.proofs.lemmas.Int.{to_z-of_z}
pub use Rattle.std.proofs.lemmas.List.{append_assoc, drop_all, drop_more, ext_get_or, get_or-set_other, get_or-set_same, get_or_past, get_or_read, length-append, length-map, length-replicate, length-set, replicate-append-replicate}
pub use Rattle.std.proofs.lemmas.List.Edits.{get_or-insert_above, get_or-insert_at, get_or-insert_below, get_or-remove_above, get_or-remove_below, length-insert, length-remove}
pub use Rattle.std.proofs.lemmas.List.Sums.{sum_by-cons, sum_by-insert, sum_by-remove}
pub use Rattle.std.specs.Int.{is_positive}
pub use Rattle.std.specs.Int.RustNames.{unsigned_abs}
pub use Rattle.std.specs.List.{find, insert, remove, sum}
pub use Rattle.std.specs.Prelude.{OnErr, OnOk, count_by}
pub use Rattle.laws.proofs.Bools.{and_false}
pub use Rattle.laws.proofs.Rising.{first_once, place_there, rest_rises}
pub use Rattle.tree_model.proofs.ChainLaws.{under_more}
pub use Rattle.tree_model.proofs.SharedLaws.{least_none}
pub use Rattle.tree_model.proofs.TreeLaws.{directory_mapped, quota_mapped}
pub use Rattle.tree_model.specs.Quotas.{getter_of, giver_of, is_over as is_over_at, least_where, lesser, superior_of, tree_moved, with_moved, with_quota_of}
unfoldable pub use Rattle.tree_model.specs.Quotas.{over_in}
pub use Rattle.tree_model.specs.Tree.{Node as Term, above, account, account_of, has_directory, quota_in as quota_at}
unfoldable pub use Rattle.tree_model.specs.Tree.{used_by}
pub use Rattle.tree_model.specs.Trees.{AreDirectories, AreUnder, EndsAtRoot, HasChains, IsChain}
pub use Rattle.dir_tree.specs.Laws.{After, Before, Here, Where, above_any, directory_in, directory_shape, not_in_directory, not_in_segment, segment_in, segment_not, segment_shape, uid_shape, where_is}
pub use Rattle.dir_tree.specs.Nodes.{as_term, is_directory, is_in, is_segment, with_quotas, without}
pub use Rattle.dir_tree.specs.Shape.{shape, shapes}
pub use Rattle.dir_tree.specs.declared.node.Node.{Node}
pub use Rattle.quota_cells.specs.Accounts.{changed_where, charged_to, covers, has, is_an_account, load, look, weigh, with_beside, with_value, without_beside}
pub use Rattle.quota_cells.specs.Cells.{CellMaps, CountsUsed, Enters, Fits, IsRising, IsTable, Leaves, charge_fault, charged, credited, entered, first_over, given, has_cell, is_over, left, load_in, loads_then, move_answer, moved, over_answer, quota_in, stored_in, used_in, with_directory, with_loads, with_quota, with_segment, without_directory, without_segment}
pub use Rattle.quota_cells.specs.Columns.{AreThere, CanGive, HasRoom, IsFalling, IsGap, IsPlaced, NumberMap, beside, both_maps, counted_on, directories_of, directory_maps, no_numbers, numbers_of, with_uid, without_uid}
unfoldable pub use Rattle.quota_cells.specs.Columns.{uids_from}
pub use Rattle.quota_cells.specs.Laws.{look_absent, on_directories, on_segments}
pub use Rattle.quota_cells.specs.Moves.{LiesIn, cell_in, is_account_over, is_giver_over, load_grown, refusal_down, refusal_up}
pub use Rattle.quota_cells.specs.Scratch.{HoldCounts, charge_answer, scratch_answer}
unfoldable pub use Rattle.quota_cells.specs.Tables.{padded}
pub use Rattle.quota_cells.specs.declared.Full.{Full}
pub use Rattle.quota_cells.specs.declared.MoveFault.{MoveFault, MoveFault as fault}
pub use Rattle.quota_cells.specs.declared.directories.Cell.{Cell}
pub use Rattle.quota_cells.specs.declared.directories.Pages.{Pages}
