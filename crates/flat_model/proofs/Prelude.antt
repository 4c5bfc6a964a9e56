-- The names that the proofs of this crate take from elsewhere.
pub use Rattle.std.proofs.Common.{All, Bool, Err, IfOk, IsTrue, List, None, Ok, Option, Result, Some, [], ap, arith, cond, drop, eqb, false, filter, get_or, inl, inr, is_some, length, ltb, map, not, pos, refl, replicate, set, subst, suc, sum, sym, take, true, zero, ℕ, ℤ, ◌%◌, ◌&&◌, ◌*◌, ◌++◌, ◌+◌, ◌-◌, ◌/◌, ◌<◌, ◌^◌, ◌||◌, ◌↔◌, ◌∙◌, ◌∷◌, ◌≡◌, ◌≢◌, ◌≤◌, ◌⊎◌}
pub use Rattle.std.proofs.lemmas.Bool.{and_parts, cases_Bool, cases_eq, cases_lt, ltb-false, ne_eqb, not-true, or_parts}
pub use Rattle.std.proofs.lemmas.Bool.Decides.{eqb_tells, leb_tells, nat_tests}
pub use Rattle.std.proofs.lemmas.Grind.{common_steps, get_or_default_zero}
pub use Rattle.std.proofs.lemmas.List.{get_or_past, length-append, length-replicate, length-take}
pub use Rattle.std.proofs.lemmas.List.Elements.{filter-append}
pub use Rattle.std.proofs.lemmas.List.Sums.{prefix_len_passes, sum_by-cons, sum_by-set}
pub use Rattle.std.proofs.lemmas.Option.{slice_get_past}
pub use Rattle.std.specs.BTreeMap.{is_at}
pub use Rattle.std.specs.BTreeMap.Range.{IsLeBy}
pub use Rattle.std.specs.Cmp.{unsigned_tied}
pub use Rattle.std.specs.Int.{is_positive}
pub use Rattle.std.specs.Int.RustNames.{unsigned_abs}
pub use Rattle.std.specs.List.{list_all, list_any, position_or_len}
pub use Rattle.std.specs.Ordering.{is_eq, is_gt, nat_cmp, ordering_then}
pub use Rattle.std.specs.Prelude.{count_by, is_none, nat_le, nat_lt, slice_get, slice_index, sum_by}
pub use Rattle.std.specs.declared.cmp.Ordering.{Ordering}
pub use Rattle.std.specs.declared.cmp.Ordering.TheVariants.{Equal, Greater, Less}
pub use Rattle.laws.proofs.Bools.{and_false, not_both, or_true, second_false}
pub use Rattle.laws.proofs.Lists.{zeros_read}
pub use Rattle.laws.proofs.Numbers.{and_both, eqb_self, eqb_turned, from_first}
pub use Rattle.mnames.specs.declared.modes.Mode.{Mode}
pub use Rattle.mnames.specs.declared.rows.Row.{Row as Named}
pub use Rattle.script.specs.Forms.{ArePools, IsPlan, weight}
unfoldable pub use Rattle.script.specs.Forms.{is_command, is_process, is_volume, weight_of}
pub use Rattle.script.specs.Plans.{Plan, ProcessPlan, command_at, commands_of, nobody, who_of}
pub use Rattle.script.specs.References.{alters, new_word, permits, reference_of}
pub use Rattle.script.specs.declared.commands.Command.{Command, Command as command}
pub use Rattle.script.specs.declared.commands.RefKind.{RefKind, RefKind as kind}
pub use Rattle.script.specs.declared.commands.Reference.{Reference}
pub use Rattle.script.specs.declared.plan.VolumeLine.{VolumeLine}
pub use Rattle.book.specs.declared.entries.Entry.{Entry, Entry as entry}
pub use Rattle.book.specs.declared.replies.Reply.{Reply, Reply as reply}
pub use Rattle.tree_model.proofs.ChainLaws.{has_chains}
pub use Rattle.tree_model.proofs.Finds.{IsMember}
pub use Rattle.tree_model.proofs.SharedLaws.{directory_there, found_uid, least_none, older, without_absent}
pub use Rattle.tree_model.proofs.TreeLaws.{lies}
pub use Rattle.tree_model.specs.Access.{Row, takes_row}
unfoldable pub use Rattle.tree_model.specs.Access.{access_of}
pub use Rattle.tree_model.specs.Quotas.{getter_of, giver_of, is_over, tree_moved, with_moved, with_quota_of}
unfoldable pub use Rattle.tree_model.specs.Quotas.{over_in}
pub use Rattle.tree_model.specs.Tree.{InSegment, LeadsTo, Missing, Node, Walk, above, branch_in, has_directory, is_account, is_branch, is_inferior, node_in, onward, quota_in, volume_in, walk_from, walk_in, with_node, without_node}
unfoldable pub use Rattle.tree_model.specs.Tree.{entries_on, taken_on, used_by}
pub use Rattle.tree_model.specs.Trees.{AreBelow, AreDirectories, AreUnder, EndsAtRoot, HasChains, IsBranch, IsTree, Joins, has_segment}
pub use Rattle.known_segs.specs.Known.{least_free, uid_of}
pub use Rattle.flat_model.specs.Branches.{before_parts, branch_at, changed, directory_at, only_directory, only_segment, parts_of, segment_at, there_or, walked}
unfoldable pub use Rattle.flat_model.specs.Branches.{node_at}
pub use Rattle.flat_model.specs.Commands.{effect_by, effect_of, effect_of_tree_command, gone_on, reply_by, reply_to_command, reply_to_tree_command, takes_effect, tries_on}
unfoldable pub use Rattle.flat_model.specs.Commands.{after_command}
pub use Rattle.flat_model.specs.Cuts.{cleared, cut_at, cut_once, without_branch, without_pages}
pub use Rattle.flat_model.specs.Legal.{IsAnswer, after_do, after_fault, is_part, is_within, last_of}
unfoldable pub use Rattle.flat_model.specs.Legal.{IsLawful, IsLegal, IsLegalFrom, after_entry, part, store_after, store_from}
pub use Rattle.flat_model.specs.Making.{delete_of, deleted, deletion_of, made_at, made_in, made_of, make_in, new_branch, owner_row}
unfoldable pub use Rattle.flat_model.specs.Making.{after_delete, after_make, delete_reply, make_reply}
pub use Rattle.flat_model.specs.Moves.{is_held_at, is_held_by, is_held_in, is_held_of}
unfoldable pub use Rattle.flat_model.specs.Moves.{is_held_back}
pub use Rattle.flat_model.specs.Naming.{initiated}
unfoldable pub use Rattle.flat_model.specs.Naming.{after_initiate, after_terminate, status_reply}
pub use Rattle.flat_model.specs.Pages.{IsOnce, Words, all_below, is_page, is_stored, is_stored_from, without_words}
unfoldable pub use Rattle.flat_model.specs.Pages.{is_zero_page, with_stored, without_stored}
pub use Rattle.flat_model.specs.Reached.{ArePlaces, IsReached, answered}
pub use Rattle.flat_model.specs.References.{is_used_up, is_volume_full, reply_at, reply_in, reply_of, stores_page, word_reply, written, written_by}
unfoldable pub use Rattle.flat_model.specs.References.{after_reference, reply_to_reference}
pub use Rattle.flat_model.specs.Rights.{done_or_over, move_of, moved}
unfoldable pub use Rattle.flat_model.specs.Rights.{acl_reply, after_acl, after_move, move_reply}
pub use Rattle.flat_model.specs.Rooms.{first_below, has_room, pages_stored, room_for}
pub use Rattle.flat_model.specs.Sizes.{cut_off, is_lost, truncated}
unfoldable pub use Rattle.flat_model.specs.Sizes.{after_length, after_truncate, length_reply, truncate_reply}
pub use Rattle.flat_model.specs.Store.{Progress, Store, at_first, entries_in, entries_of, known_uid, progress_of, records_in, records_of, root_of, with_progress}
unfoldable pub use Rattle.flat_model.specs.Store.{boot}
