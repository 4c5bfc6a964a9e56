-- The names that the proofs of this crate take from elsewhere.
pub use Rattle.std.proofs.Common.{All, Bool, Bor, Err, IsSome, IsTrue, List, MutBor, None, Ok, OnOk, Option, Result, Some, [], ap, arith, cond, drop, eqb, false, filter, get_or, if◌then◌else◌, inl, inr, is_none, is_ok, is_some, leb, length, ltb, map, not, refl, replicate, rules, set, subst, suc, sym, take, true, w32, zero, ℕ, ℤ, ◌%◌, ◌&&◌, ◌*◌, ◌++◌, ◌+◌, ◌-◌, ◌/◌, ◌<◌, ◌==◌, ◌^◌, ◌||◌, ◌↔◌, ◌∙◌, ◌∷◌, ◌≡◌, ◌≢◌, ◌≤◌, ◌⊎◌}
pub use Rattle.std.proofs.lemmas.Bool.{cases_Bool, cases_eq, ne_eqb}
pub use Rattle.std.proofs.lemmas.Bool.Decides.{Decides-eqb, nat_tests}
pub use Rattle.std.proofs.lemmas.Int.{to_z-of_z}
pub use Rattle.std.proofs.lemmas.List.{drop-drop, get_or-set_other, get_or-set_same, get_or_past, length-append, length-replicate, length-set, take-append-drop}
pub use Rattle.std.proofs.lemmas.List.Elements.{All-head, All-tail, filter-append, filter_agree, filter_passes}
pub use Rattle.std.proofs.lemmas.List.Filters.{length-filter_both}
pub use Rattle.std.proofs.lemmas.List.Sums.{length-filter, sum_by-cons}
pub use Rattle.std.proofs.lemmas.Map.Entries.{lookup-filter-keys}
pub use Rattle.std.proofs.lemmas.Map.Iter.{iter_turn}
pub use Rattle.std.proofs.lemmas.Map.Keys.{sorted_head, sorted_tail}
pub use Rattle.std.specs.BTreeMap.{BTreeMap, get}
pub use Rattle.std.specs.BTreeMap.ExtractIf.{ExtractsIf, extract_if_rest}
pub use Rattle.std.specs.BTreeMap.Range.{IsLeBy, IsRangeOf, range_contains}
pub use Rattle.std.specs.Bool.{Decides, MatchBool}
pub use Rattle.std.specs.Int.{is_positive}
pub use Rattle.std.specs.Int.RustNames.{unsigned_abs}
pub use Rattle.std.specs.Iterator.{Yields}
pub use Rattle.std.specs.List.{AllByRecursion}
pub use Rattle.std.specs.List.Retain.{ExtractsNext}
unfoldable pub use Rattle.std.specs.List.Sorted.{IsStrictlySortedBy}
pub use Rattle.std.specs.Map.{keys_of, lookup}
pub use Rattle.std.specs.Map.Calls.{CalledAtPair, RemovesKey}
pub use Rattle.std.specs.Map.Iter.{deref_pair}
pub use Rattle.std.specs.Option.{MatchOption, option_copied, option_copied_mut, option_to_list}
pub use Rattle.std.specs.Ordering.{is_eq, is_le, nat_cmp, ordering_then}
pub use Rattle.std.specs.Prelude.{IfNone, IfSome, IsSomeAnd, count_by, nat_le, nat_lt, slice_get, slice_index}
pub use Rattle.std.specs.declared.cmp.Ordering.{Ordering}
pub use Rattle.std.specs.declared.cmp.Ordering.TheVariants.{Less}
pub use Rattle.std.specs.declared.collections.btree_map.ExtractIf.{ExtractIf}
pub use Rattle.std.specs.declared.ops.Bound.{Bound}
pub use Rattle.std.specs.declared.ops.Bound.TheVariants.{Excluded, Included, Unbounded}
pub use Rattle.laws.proofs.Bools.{and_right, room_parts}
pub use Rattle.laws.proofs.Lists.{zeros_read}
pub use Rattle.laws.proofs.Options.{on_ok}
pub use Rattle.mword.specs.Words.{AreZero}
pub use Rattle.mnames.specs.declared.modes.Mode.{Mode}
pub use Rattle.mnames.specs.declared.rows.Row.{Row as Named}
pub use Rattle.script.specs.Forms.{IsPlan}
pub use Rattle.script.specs.Plans.{Plan, command_at, who_of}
pub use Rattle.script.specs.References.{alters, new_word, permits, reference_of}
pub use Rattle.script.specs.declared.commands.Command.{Command}
pub use Rattle.script.specs.declared.commands.RefKind.{RefKind}
pub use Rattle.script.specs.declared.commands.Reference.{Reference}
pub use Rattle.script.specs.declared.plan.VolumeLine.{VolumeLine}
pub use Rattle.book.specs.declared.entries.Entry.{Entry}
pub use Rattle.book.specs.declared.replies.Reply.{Reply}
pub use Rattle.tree_model.proofs.SharedLaws.{found_uid, older, some_there}
pub use Rattle.tree_model.specs.Access.{Row, with_row}
unfoldable pub use Rattle.tree_model.specs.Access.{access_of}
pub use Rattle.tree_model.specs.Quotas.{getter_of, giver_of}
pub use Rattle.tree_model.specs.Tree.{Node, above, account_of, has_directory, node_in, quota_in, volume_in, with_node, without_node}
unfoldable pub use Rattle.tree_model.specs.Tree.{entries_on, taken_on}
pub use Rattle.tree_model.specs.Trees.{AreBelow, IsTree, has_segment}
pub use Rattle.known_segs.specs.Known.{least_free, number_for, uid_of}
pub use Rattle.dir_tree.specs.Nodes.{as_term}
pub use Rattle.dir_tree.specs.declared.node.Node.{Node as Branch}
pub use Rattle.quota_cells.specs.Laws.{look_absent}
pub use Rattle.quota_cells.specs.Scratch.{charge_answer}
pub use Rattle.quota_cells.specs.declared.Full.{Full}
pub use Rattle.accounts.specs.Maps.{AccountMaps, Changes, Gains, HasColumns, Loses, Recounts, Rehomes, branch_of, count_of, root_alone}
pub use Rattle.flat_model.proofs.BookLaws.{entry_there, legal_at, store_after-nil, store_next}
pub use Rattle.flat_model.proofs.CountLaws.{count_with, count_without, taken_new}
pub use Rattle.flat_model.proofs.CutLaws.{cleared_absent, cut_size, get_cut, truncate_done, truncate_refused, whole_cut, zero_words_told}
pub use Rattle.flat_model.proofs.DropLaws.{IsBlank, all_between, flip_page, none_missing}
pub use Rattle.flat_model.proofs.FieldLaws.{entries_mapped, field_found, field_kept, field_left, field_mapped, field_none}
pub use Rattle.flat_model.proofs.HeldLaws.{held_by}
pub use Rattle.flat_model.proofs.KeepLaws.{Keeps, directory_map, keeps_length, keeps_moved, keeps_one, keeps_rows, moved_else, quota_moved, segment_map, volume_map}
pub use Rattle.flat_model.proofs.KeyLaws.{key_is}
pub use Rattle.flat_model.proofs.NodeLaws.{no_directory, volume_found}
pub use Rattle.flat_model.proofs.OtherLaws.{KeepsOthers, acl_keeps, delete_keeps, length_keeps, make_keeps, move_keeps, truncate_keeps, written_keeps}
pub use Rattle.flat_model.proofs.PageLaws.{is_stored-with, is_stored-without, none_from, once_with, once_without, stored_from, with_old, without_first, without_none}
pub use Rattle.flat_model.proofs.PairLaws.{by_both, compare, first_le, same_le, second_le}
pub use Rattle.flat_model.proofs.PlaceLaws.{place_fits, place_within}
pub use Rattle.flat_model.proofs.ReachLaws.{answered_advances, few_uids, reached_boot, reached_fault, reached_on}
pub use Rattle.flat_model.proofs.RemoveLaws.{delete_asked, delete_done, delete_refused, deleted_is, directory_gone, directory_left, none_counted, segment_left, taken_left}
pub use Rattle.flat_model.proofs.RoomLaws.{room_is, room_none}
pub use Rattle.flat_model.proofs.ScriptLaws.{root_there}
pub use Rattle.flat_model.proofs.TreeLaws.{branch_made, entries_less}
pub use Rattle.flat_model.proofs.TreeReplies.{length_refused, length_told, not_first, parts_are}
pub use Rattle.flat_model.proofs.ZeroLaws.{words_zero, zero_words}
pub use Rattle.flat_model.specs.Branches.{branch_at, directory_at, segment_at}
unfoldable pub use Rattle.flat_model.specs.Branches.{node_at}
pub use Rattle.flat_model.specs.Commands.{effect_of_tree_command, gone_on, reply_to_command, reply_to_tree_command, takes_effect}
unfoldable pub use Rattle.flat_model.specs.Commands.{after_command}
pub use Rattle.flat_model.specs.Cuts.{cleared, cut_at, has_cleared, without_pages}
pub use Rattle.flat_model.specs.Legal.{IsLawfulDo, MayAnswerDevice, MayAnswerDue, MayFault, MayRelease, after_fault}
unfoldable pub use Rattle.flat_model.specs.Legal.{IsLawful, IsLegal, after_entry, store_after}
pub use Rattle.flat_model.specs.Making.{made_in, make_at, make_in, owner_row}
unfoldable pub use Rattle.flat_model.specs.Making.{after_make, make_reply}
pub use Rattle.flat_model.specs.Moves.{MayMove, awaits_by, awaits_in, is_held_at, is_held_in, is_uid, lacks_at, moved}
unfoldable pub use Rattle.flat_model.specs.Moves.{awaits_move, is_held_back}
pub use Rattle.flat_model.specs.Naming.{known_or_full}
unfoldable pub use Rattle.flat_model.specs.Naming.{after_initiate, after_terminate, initiate_reply, terminate_reply}
pub use Rattle.flat_model.specs.Pages.{IsOnce, Words, is_page, is_stored, is_stored_from, with_word, without_words}
unfoldable pub use Rattle.flat_model.specs.Pages.{is_zero_page, with_stored, without_stored}
pub use Rattle.flat_model.specs.References.{is_out_of_room, is_used_up, is_volume_full, reply_at, reply_in, room_reply, stores_page, word_reply, written}
unfoldable pub use Rattle.flat_model.specs.References.{after_reference, reply_to_reference}
pub use Rattle.flat_model.specs.Rights.{row_with}
unfoldable pub use Rattle.flat_model.specs.Rights.{after_acl, after_move}
pub use Rattle.flat_model.specs.Rooms.{first_below, room_for}
unfoldable pub use Rattle.flat_model.specs.Sizes.{after_length, length_reply}
pub use Rattle.flat_model.specs.Store.{Progress, Store, at_first, entries_in, entries_of, known_uid, numbers_of, progress_of, records_in, records_of, root_of, with_numbers, with_progress}
unfoldable pub use Rattle.flat_model.specs.Store.{boot}
pub use Rattle.tree_commands.specs.Shown.{HasMoved, HasRowSet, ShowsTree}
pub use Rattle.flat_store.specs.Roomy.{IsLeast, filled_by, is_roomy, shifted, with_drained}
pub use Rattle.flat_store.specs.Shown.{AreFlat, AreInside, Cuts, Gauge, Held, HoldPages, Holds, IsHeld, IsReached, IsShown, Kept, Paged, Puts, Sheds, Shows, answered, drained, entries_gauge, filled, gauge_at, has_room, is_full, is_key, may_write, numbers_at, page_at, page_reply, pages_in, progress_at, records_gauge, word_in, words_in}
unfoldable pub use Rattle.flat_store.specs.Zeros.{HasZeroPage, KeepsZeroPage}
