-- The names that the proofs of this crate take from elsewhere.
pub use Rattle.std.proofs.Common.{All, Bool, Err, IfOk, IsSome, IsTrue, List, None, Ok, OnOk, Option, Result, Some, [], ap, arith, cond, eqb, false, get_or, inl, inr, is_none, is_some, length, map, not, refl, replicate, rules, set, subst, suc, sum, sym, take, true, w32, zero, ℕ, ℤ, ◌%◌, ◌&&◌, ◌*◌, ◌++◌, ◌+◌, ◌-◌, ◌/◌, ◌<◌, ◌^◌, ◌||◌, ◌↔◌, ◌∙◌, ◌∷◌, ◌≡◌, ◌≢◌, ◌≤◌, ◌⊎◌}
pub use Rattle.std.proofs.Math.Bool.{and-true}
pub use Rattle.std.proofs.Math.ListN.{get_or-map}
pub use Rattle.std.proofs.lemmas.Bool.{cases_Bool, cases_eq, cases_lt, eq-eqb, eqb-true, ne_eqb, or_parts}
pub use Rattle.std.proofs.lemmas.Bool.Decides.{eqb_tells, nat_tests}
pub use Rattle.std.proofs.lemmas.Grind.{common_steps}
pub use Rattle.std.proofs.lemmas.Int.{to_z-of_z}
pub use Rattle.std.proofs.lemmas.List.{get_or-replicate, get_or-reverse, get_or-set_other, get_or-set_same, get_or_past, get_or_read, length-append, length-map, length-replicate, length-reverse, length-set, length-take, set-get_or, get_or-map as List_get_or-map}
pub use Rattle.std.proofs.lemmas.List.Quantifiers.{position-Some}
pub use Rattle.std.proofs.lemmas.List.Sums.{count_by-le-length, fails_before_first, sum_by-cons, sum_by-set}
pub use Rattle.std.proofs.lemmas.Option.{same_Some}
pub use Rattle.std.specs.Int.{is_positive}
pub use Rattle.std.specs.Int.RustNames.{unsigned_abs}
pub use Rattle.std.specs.List.{list_all, list_any, position_or_len, range_with_len}
pub use Rattle.std.specs.Prelude.{count_by, nat_le, nat_lt, position, slice_get}
pub use Rattle.std.specs.Result.{is_err}
pub use Rattle.laws.proofs.Bools.{and_false, and_parts, off_and_on, or_true, room_parts}
pub use Rattle.laws.proofs.Lists.{all_same, get_or_any, none_put, within_from}
pub use Rattle.laws.proofs.Numbers.{and_both, eqb_turned, from_first, zero_word}
pub use Rattle.laws.proofs.Options.{page_is, passed_there, some_number}
pub use Rattle.laws.proofs.Places.{shown_within}
pub use Rattle.mword.specs.Words.{AreZero}
unfoldable pub use Rattle.mnames.specs.Names.{is_name}
pub use Rattle.mnames.specs.declared.modes.Mode.{Mode}
pub use Rattle.mnames.specs.declared.principals.Who.{Who}
pub use Rattle.mnames.specs.declared.rows.Row.{Row as Named}
pub use Rattle.script.specs.Forms.{is_from}
unfoldable pub use Rattle.script.specs.Forms.{is_command, is_path, is_volume}
pub use Rattle.script.specs.Plans.{Plan, ProcessPlan, nobody, who_of}
pub use Rattle.script.specs.References.{new_word, permits}
pub use Rattle.script.specs.declared.commands.Command.{Command}
pub use Rattle.script.specs.declared.commands.RefKind.{RefKind}
pub use Rattle.script.specs.declared.commands.Reference.{Reference}
pub use Rattle.script.specs.declared.plan.VolumeLine.{VolumeLine}
pub use Rattle.book.specs.declared.replies.Reply.{Reply}
pub use Rattle.tree_model.proofs.SharedLaws.{found_uid, joined_below, node_without, uid_below}
pub use Rattle.tree_model.proofs.TreeLaws.{IsUp, above_once, depth, superior_found, superior_up, superior_in as TreeLaws_superior_in}
pub use Rattle.tree_model.specs.Access.{Row, with_row}
unfoldable pub use Rattle.tree_model.specs.Access.{access_of}
pub use Rattle.tree_model.specs.Quotas.{getter_of, giver_of}
pub use Rattle.tree_model.specs.Tree.{Node, above, account_of, branch_in, has_directory, is_inferior, node_in, pool_for, pool_of, quota_in, step_up, volume_in, with_node, without_node}
unfoldable pub use Rattle.tree_model.specs.Tree.{entries_on, taken_on}
pub use Rattle.tree_model.specs.Trees.{AreBelow, IsTree, has_segment}
pub use Rattle.known_segs.specs.Known.{first_of_two, known_count, number_for, number_of, uid_of, with_number, without_number, least_free as Known_least_free}
pub use Rattle.dir_tree.proofs.QuotaLemmas.{unless_none}
pub use Rattle.dir_tree.specs.Nodes.{add_fault_of, as_node, as_term, chain_of, has_inferior, maker_rows, unless as Nodes_unless}
pub use Rattle.dir_tree.specs.declared.node.AddFault.{AddFault}
pub use Rattle.quota_cells.specs.Scratch.{charge_answer}
pub use Rattle.quota_cells.specs.declared.Full.{Full}
pub use Rattle.accounts.specs.Maps.{AccountMaps, Changes, Counts, Gains, Loses, Recounts, Rehomes, branch_of, count_of, entry_of, root_alone}
pub use Rattle.flat_model.proofs.CountLaws.{count_with, count_without, counted_less, taken_new}
pub use Rattle.flat_model.proofs.CutLaws.{cleared_absent, even_cut, get_cut, truncate_done, whole_cut, zero_words_told}
pub use Rattle.flat_model.proofs.DropLaws.{IsBlank, all_between, between, more_between, none_between, none_missing, stored_fused}
pub use Rattle.flat_model.proofs.FieldLaws.{entries_mapped, field_found, field_kept, field_mapped}
pub use Rattle.flat_model.proofs.KeepLaws.{Keeps, directory_map, keeps_length, keeps_moved, keeps_one, keeps_rows, moved_else, quota_moved, volume_map}
pub use Rattle.flat_model.proofs.NodeLaws.{no_directory, volume_found}
pub use Rattle.flat_model.proofs.NumberLaws.{free_none}
pub use Rattle.flat_model.proofs.PageLaws.{is_stored-with, is_stored-without, none_from, once_with, once_without, stored_from, with_old, without_first, without_none}
pub use Rattle.flat_model.proofs.PathRefusals.{branch_refuses, branch_says, node_refuses, segment_refuses, segment_says}
pub use Rattle.flat_model.proofs.QuotaTotals.{branch_found, only_found}
pub use Rattle.flat_model.proofs.RemoveLaws.{delete_done, directory_left, node_gone, none_counted as counts_none, taken_left, volume_left}
pub use Rattle.flat_model.proofs.RoomLaws.{first_is, first_none, room_is, room_none}
pub use Rattle.flat_model.proofs.ScriptLaws.{few_pages}
pub use Rattle.flat_model.proofs.SharedLaws.{pools_few}
pub use Rattle.flat_model.proofs.TreeLaws.{branch_made, entries_less}
pub use Rattle.flat_model.proofs.TreeReplies.{acl_refused, acl_told, delete_refused, delete_told, from_false, length_refused, length_told, make_in_segment, make_refused, make_root, make_told, parts_are, truncate_refused, truncate_told}
pub use Rattle.flat_model.proofs.ZeroLaws.{words_zero}
pub use Rattle.flat_model.specs.Branches.{branch_at, changed, directory_at, segment_at}
unfoldable pub use Rattle.flat_model.specs.Branches.{node_at}
pub use Rattle.flat_model.specs.Commands.{takes_effect}
pub use Rattle.flat_model.specs.Cuts.{cleared, has_cleared, without_branch, without_pages}
pub use Rattle.flat_model.specs.Legal.{MayRelease}
pub use Rattle.flat_model.specs.Making.{made_in, make_in}
unfoldable pub use Rattle.flat_model.specs.Making.{after_make}
pub use Rattle.flat_model.specs.Naming.{initiate_of, initiated, known_or_full}
unfoldable pub use Rattle.flat_model.specs.Naming.{after_initiate, after_terminate, initiate_reply, terminate_reply}
pub use Rattle.flat_model.specs.Pages.{IsOnce, Words, is_stored, is_stored_from, with_word}
unfoldable pub use Rattle.flat_model.specs.Pages.{is_zero_page, with_stored, without_stored}
pub use Rattle.flat_model.specs.References.{is_out_of_room, is_used_up, is_volume_full, reply_at, reply_of, room_reply, stores_page, word_reply, written}
unfoldable pub use Rattle.flat_model.specs.References.{after_reference, reply_to_reference}
pub use Rattle.flat_model.specs.Rights.{moved, nodes_moved, row_with}
unfoldable pub use Rattle.flat_model.specs.Rights.{after_acl, after_move}
pub use Rattle.flat_model.specs.Rooms.{has_room, room_for}
unfoldable pub use Rattle.flat_model.specs.Sizes.{after_length, length_reply}
pub use Rattle.flat_model.specs.Store.{Store, Store as Flat, at_first, entries_in, entries_of, known_uid, numbers_of, records_in as sizes_in, records_of, root_of}
unfoldable pub use Rattle.flat_model.specs.Store.{boot}
pub use Rattle.bitmap.specs.Bitmap.{least_free}
pub use Rattle.page_table.specs.PageTable.{ptw_at}
pub use Rattle.page_table.specs.declared.Ptw.{Ptw}
pub use Rattle.page_table.specs.declared.Ptw.TheVariants.{Here, Leaving, Null, Out}
pub use Rattle.record_map.specs.Bitmap.{in_use}
unfoldable pub use Rattle.vtoc.specs.FileMap.{no_records}
pub use Rattle.vtoc.specs.Vtoc.{Entry as VtocEntry, entry_at, least_free_entry, record_at, records_in, with_record, uid_of as Vtoc_uid_of}
pub use Rattle.core_map.specs.CoreMap.{Core, bound_page, frame_at, is_bound, reads_of, started_page, with_frame}
pub use Rattle.core_map.specs.declared.Frame.{Frame}
pub use Rattle.core_map.specs.declared.Frame.TheVariants.{Bound, Free, Started}
pub use Rattle.volumes.specs.Volumes.{HasParts, KeepsTables, Vols, records_at, used_at, vtoc_at}
pub use Rattle.seg_mover.specs.Moves.{CanBegin, begun}
pub use Rattle.seg_mover.specs.Records.{flags_taken, with_taken}
pub use Rattle.seg_mover.specs.declared.Mover.{Mover}
pub use Rattle.active_segs.specs.Active.{ActiveSegs, HasNoInferior, IsActive, IsAway, IsOneToOne, deactivated, entry_at as entry_in_place, no_segments, superior_in, superior_in as superior_of_entry, table_at, uid_at as uid_in_place, uid_in, IsTree as Active_IsTree}
pub use Rattle.active_segs.specs.Pool.{IsInPool}
pub use Rattle.active_segs.specs.Victim.{first_off_chain, hand_past}
pub use Rattle.active_segs.specs.declared.Entry.{Entry}
pub use Rattle.descriptor_seg.specs.Descriptors.{sdw_at}
pub use Rattle.descriptor_seg.specs.declared.Sdw.{Sdw}
pub use Rattle.descriptor_seg.specs.declared.Sdw.TheVariants.{Fault, Present}
pub use Rattle.trailers.specs.Trailer.{leads_to, trailers_of}
pub use Rattle.page_control.specs.Counts.{KeepsCounts, entries, is_full, size, taken, taken_after, used}
unfoldable pub use Rattle.page_control.specs.Counts.{named_on, one_less, one_more}
pub use Rattle.page_control.specs.Effects.{after_asked, after_evict, created, cut, dropped, erased, freed, next_record, unstored}
pub use Rattle.page_control.specs.Picture.{ChangesStored, ChangesWords, KeepsWords, changed_page, is_binding, is_kept, words_at, words_held}
unfoldable pub use Rattle.page_control.specs.Picture.{changed_at, is_filed_at, words_of_page}
pub use Rattle.page_control.specs.Plain.{Paging, Plain, binding_at, bindings, file_map_of, flags_of, number_in, plain, record_of, words_in}
pub use Rattle.page_control.specs.Tied.{AreFiled, IsNotStarted, IsTableOf, flags_in, frame_of, has_record, is_away, is_out, map_at, uid_at, uid_at as uid_homed, vtoc_in, uid_in as Tied_uid_in}
pub use Rattle.page_control.specs.Ties.{IsTied}
pub use Rattle.page_control.specs.declared.Home.{Home}
pub use Rattle.page_control.specs.declared.Left.{Left}
pub use Rattle.page_control.specs.declared.Left.TheVariants.{Kept, Released}
pub use Rattle.seg_control.specs.Control.{Control, Links, is_for, kst_at, leads, leads_at, sdws_at, table_of, word_of}
unfoldable pub use Rattle.seg_control.specs.Control.{place_of}
pub use Rattle.seg_control.specs.Effects.{faulting, linked, no_links, table_here, table_left, unlinked, worded}
unfoldable pub use Rattle.seg_control.specs.Effects.{all_cut, reconnected}
pub use Rattle.seg_control.specs.Kept.{AreAtRest, AreExact, AreLinked, IsHomeFor, IsHomeOf, IsInactive, IsKept, IsNotRead, pair_at, times}
pub use Rattle.seg_control.specs.Moving.{home_at, move_committed, pair_of}
pub use Rattle.seg_control.specs.Next.{IsNext, MayActivate, link_at, no_link, superior_of, uids_of, words_in as Next_words_in}
pub use Rattle.seg_control.specs.declared.Link.{Link}
pub use Rattle.seg_control.specs.declared.Next.{Next}
pub use Rattle.seg_control.specs.declared.Next.TheVariants.{Activated, Victim, Whole}
pub use Rattle.storage_ops.specs.Connecting.{HasOneToGo, IsChainDown, IsRight, link_of, pool_in}
pub use Rattle.storage_ops.specs.Cut.{CutsPages, IsReady, IsTakenPast, KeepsRest, TakesOut, Unstores, is_here, leaves, unbound}
pub use Rattle.storage_ops.specs.CutOff.{CountsOthers, Erases, Paged, cut_at, cut_by, is_cleared, page_cleared, page_cut, paged, pages_cut, pages_from, put_out}
pub use Rattle.storage_ops.specs.Found.{Leads}
pub use Rattle.storage_ops.specs.Paged.{IsSettled, done_or, page_left, page_made}
pub use Rattle.storage_ops.specs.References.{brings_word, is_of_room, is_out_of_room as has_no_room, is_outside, is_spent, only, outside_by, refusal_by, refusal_in, refused_by, room_by, room_in, target_at, target_of, unless, want_of_room}
unfoldable pub use Rattle.storage_ops.specs.References.{outside_refusal, room_refusal, target}
pub use Rattle.storage_ops.specs.Rooms.{first_roomy, is_roomy, move_target, room_of}
pub use Rattle.storage_ops.specs.Shown.{AreCounted, AreFresh, AreHoused, AreInTree, AreKnown, AreTaken, HasMoved, HasRowSet, HaveRights, IsCut, IsStore, Shows, ShowsPages, ShowsTree, Storage, answered, empty_frames, home_of, is_refusal, is_there, named_at, pages_in, pages_of, refusal, who_at, with_known, with_vtocs}
unfoldable pub use Rattle.storage_ops.specs.Shown.{is_filed, picture}
pub use Rattle.seg_control.proofs.Homes.{home_cases}
pub use Rattle.page_control.proofs.Facts.{bound_to, bound_from_page}
pub use Rattle.seg_control.proofs.Frames.{started_from}
