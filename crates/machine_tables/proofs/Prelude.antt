-- The names that the proofs of this crate take from elsewhere.
pub use Rattle.std.proofs.Common.{Bool, List, None, Option, Some, [], ap, append-nil, append_assoc, arith, cond, count_by, drop, eqb, ext_get_or, false, get_or, if◌then◌else◌, inl, inr, is_none, is_some, length, length-append, map, not, position, refl, replicate, reverse, rules, set, subst, suc, sum, sym, take, true, w32, zero, ℕ, ◌%◌, ◌&&◌, ◌*◌, ◌++◌, ◌+◌, ◌-◌, ◌<◌, ◌||◌, ◌∙◌, ◌∷◌, ◌≡◌, ◌≢◌, ◌≤◌, ◌⊎◌, suc-add, zero-add}
pub use Rattle.std.proofs.Math.ListN.{drop_of_length-le, get_or-map}
pub use Rattle.std.proofs.lemmas.Bool.{and_parts, cases_Bool, cases_eq, cases_lt, eq-eqb, eqb-true, le-ltb, lt-ltb, ne_eqb, or_cases, or_left, or_right, false_from_ne_true, not_from_false}
pub use Rattle.std.proofs.lemmas.Bool.Decides.{eqb_tells, leb_tells, nat_tests}
pub use Rattle.std.proofs.lemmas.Grind.{reverse_onto}
pub use Rattle.std.proofs.lemmas.Int.{to_z-of_z}
pub use Rattle.std.proofs.lemmas.List.{drop_more, get_or-reverse, get_or-set_other, get_or-set_same, get_or_default, get_or_past, length-map, length-replicate, length-reverse, length-set, nil_from_length, reverse-reverse, set-set, set_comm, get_or-map as List_get_or-map}
pub use Rattle.std.proofs.lemmas.List.Edits.{length-insert, length-remove}
pub use Rattle.std.proofs.lemmas.List.Elements.{All-get_or}
pub use Rattle.std.proofs.lemmas.List.Sums.{sum_by-cons, position_or_len_is}
pub use Rattle.std.specs.Int.{is_positive}
pub use Rattle.std.specs.Int.RustNames.{unsigned_abs}
pub use Rattle.std.specs.List.{All, find, insert, list_all, list_any, position_or_len, range_with_len, remove}
pub use Rattle.std.specs.Prelude.{Err, IfOk, IfSome, IsNone, IsSome, Ok, OnErr, Result, filter, nat_le, nat_lt, slice_get, sum_by, ℤ, ◌/◌, ◌↔◌}
pub use Rattle.laws.proofs.Bools.{not_both, first_false, and_false, and_parts as Bools_and_parts}
pub use Rattle.laws.proofs.Lists.{given_twice, within_from, all_same}
pub use Rattle.laws.proofs.Numbers.{eqb_self, zero_word}
pub use Rattle.laws.proofs.Options.{page_is, times_one, when_none}
pub use Rattle.laws.proofs.Places.{shown_within, list_within}
pub use Rattle.laws.proofs.Rising.{first_less, first_once, place_there, rest_rises}
pub use Rattle.mword.specs.Words.{AreZero}
pub use Rattle.mnames.specs.declared.modes.Mode.{Mode}
pub use Rattle.mnames.specs.declared.principals.Who.{Who}
pub use Rattle.mnames.specs.declared.rows.Row.{Row as Named}
pub use Rattle.script.specs.Forms.{ArePools, IsPlan, is_from, is_place}
unfoldable pub use Rattle.script.specs.Forms.{is_command, is_path, is_volume}
pub use Rattle.script.specs.Plans.{Plan, ProcessPlan, command_at, nobody, who_of}
pub use Rattle.script.specs.References.{alters, new_word, reference_of}
pub use Rattle.script.specs.declared.commands.Command.{Command}
pub use Rattle.script.specs.declared.commands.Reference.{Reference}
pub use Rattle.script.specs.declared.plan.VolumeLine.{VolumeLine}
pub use Rattle.assoc_mem.specs.Held.{seg_of}
pub use Rattle.assoc_mem.specs.declared.What.{What}
pub use Rattle.assoc_mem.specs.declared.What.TheVariants.{Seg}
pub use Rattle.book.specs.declared.replies.Reply.{Reply}
pub use Rattle.tree_model.proofs.ChainLaws.{has_chains}
pub use Rattle.tree_model.proofs.Finds.{IsMember, found_front, found_member, past_front}
pub use Rattle.tree_model.proofs.SharedLaws.{found_uid, joined_below, some_there, without_absent as all_left}
pub use Rattle.tree_model.proofs.TreeLaws.{IsUp, above_once, superior_found, superior_in, superior_up}
pub use Rattle.tree_model.specs.Access.{Row, with_row as with_row_of}
unfoldable pub use Rattle.tree_model.specs.Access.{access_of}
pub use Rattle.tree_model.specs.Quotas.{getter_of, giver_of}
pub use Rattle.tree_model.specs.Tree.{LeadsTo, Node, Walk, above, has_directory, node_in, pool_for, pool_of, quota_in, step_up, volume_in, walk_in, without_node}
pub use Rattle.tree_model.specs.Trees.{AreBelow, HasChains, IsChain, IsTree as IsNodeTree, has_segment}
pub use Rattle.known_segs.specs.Known.{number_for, uid_of, with_number}
pub use Rattle.dir_tree.specs.Nodes.{as_term, chain_of, path_answer}
pub use Rattle.dir_tree.specs.declared.node.PathFault.{PathFault}
pub use Rattle.quota_cells.proofs.ColumnLaws.{length_with, look_with, look_with_other}
pub use Rattle.quota_cells.proofs.EditLaws.{has_insert, has_remove, look_insert, look_remove, rising_insert, rising_remove}
pub use Rattle.quota_cells.proofs.PlaceLaws.{has_at, look_at}
pub use Rattle.quota_cells.proofs.RowLaws.{gap_of, insert_beside, remove_beside}
pub use Rattle.quota_cells.specs.Accounts.{has, look, with_beside, with_value, without_beside}
pub use Rattle.quota_cells.specs.Cells.{IsRising}
pub use Rattle.quota_cells.specs.Columns.{IsGap}
pub use Rattle.accounts.specs.Maps.{AccountMaps, Changes, HasColumns, Recounts, count_of, root_alone, rows_in, entry_of as Maps_entry_of}
pub use Rattle.flat_model.proofs.BookLaws.{store_after-nil}
pub use Rattle.flat_model.proofs.FieldLaws.{field_found}
pub use Rattle.flat_model.proofs.KeepLaws.{keeps_length, keeps_moved, keeps_one, keeps_rows, segment_map, Keeps as KeepLaws_Keeps}
pub use Rattle.flat_model.proofs.PathRefusals.{branch_refuses, node_refuses, segment_refuses}
pub use Rattle.flat_model.proofs.ScriptLaws.{command_planned, few_pages}
pub use Rattle.flat_model.specs.Branches.{branch_at, directory_at, done_at, only_directory, only_segment, parts_of, segment_at, there_or, walked}
unfoldable pub use Rattle.flat_model.specs.Branches.{node_at}
pub use Rattle.flat_model.specs.Commands.{effect_by, effect_of_tree_command, reply_by, reply_to_command, reply_to_tree_command, takes_effect}
pub use Rattle.flat_model.specs.Making.{delete_of, deleted, made_at, made_in, made_of, make_at, make_of, owner_row}
unfoldable pub use Rattle.flat_model.specs.Making.{after_delete, after_make, delete_reply, make_reply}
pub use Rattle.flat_model.specs.Naming.{initiate_of, initiated}
unfoldable pub use Rattle.flat_model.specs.Naming.{after_initiate, after_terminate, initiate_reply, terminate_reply}
unfoldable pub use Rattle.flat_model.specs.Pages.{without_stored}
pub use Rattle.flat_model.specs.References.{is_volume_full, room_reply, written}
unfoldable pub use Rattle.flat_model.specs.References.{reply_to_reference}
pub use Rattle.flat_model.specs.Rights.{acl_of, move_of, row_with}
unfoldable pub use Rattle.flat_model.specs.Rights.{acl_reply, move_reply}
pub use Rattle.flat_model.specs.Rooms.{room_for}
pub use Rattle.flat_model.specs.Sizes.{length_of}
unfoldable pub use Rattle.flat_model.specs.Sizes.{after_truncate, length_reply, truncate_reply}
pub use Rattle.flat_model.specs.Store.{Store, entries_in, known_uid, numbers_of, records_in, records_of}
unfoldable pub use Rattle.flat_model.specs.Store.{boot}
pub use Rattle.custody_model.proofs.SharedLaws.{has_append, range_end, range_length}
pub use Rattle.custody_model.specs.Custody.{range, has as Custody_has}
pub use Rattle.page_table.specs.PageTable.{ptw_at}
pub use Rattle.page_table.specs.declared.Ptw.{Ptw}
pub use Rattle.page_table.specs.declared.Ptw.TheVariants.{Here, Leaving, Null, Out}
pub use Rattle.vtoc.specs.Vtoc.{Entry as VtocEntry, fresh_entry, least_free_entry, with_record, uid_of as Vtoc_uid_of}
pub use Rattle.core_map.specs.Clock.{clock_choice}
pub use Rattle.core_map.specs.CoreMap.{Core, after_reference, bound_page, frame_at, is_bound, is_free, is_started, least_free_frame, reads_of, started_page}
pub use Rattle.core_map.specs.declared.Frame.{Frame}
pub use Rattle.core_map.specs.declared.Frame.TheVariants.{Bound, Free, Started}
pub use Rattle.volumes.specs.Volumes.{HasParts, Vols}
pub use Rattle.seg_mover.specs.declared.Mover.{Mover}
pub use Rattle.active_segs.specs.Active.{ActiveSegs, IsActive, IsFull, IsLeastFree, IsTree, deactivated, entry_at, no_segments, table_at, uid_at, uid_in as Active_uid_in}
pub use Rattle.active_segs.specs.Pool.{IsInPool, first_of, size_of}
pub use Rattle.active_segs.specs.Victim.{HasItsSuperiors, HasOneOffChain, first_off_chain, hand_moved, hand_past, off_chain}
pub use Rattle.active_segs.specs.declared.Entry.{Entry, Entry as Segment}
pub use Rattle.descriptor_seg.specs.declared.Sdw.{Sdw}
pub use Rattle.descriptor_seg.specs.declared.Sdw.TheVariants.{Fault}
pub use Rattle.trailers.specs.Trailer.{leads_to, trailers_of, without_trailer}
pub use Rattle.traffic.specs.Queue.{Queue, with_last}
pub use Rattle.page_control.specs.Counts.{size}
pub use Rattle.page_control.specs.Effects.{after_asked, allocated, cut, erased, framed, freed, referred, unstored, word_put, worded as Effects_worded}
unfoldable pub use Rattle.page_control.specs.Picture.{is_filed_at}
pub use Rattle.page_control.specs.Plain.{Plain, binding_at, bindings, entry_of, file_map_of, filed, flags_of, frame_in, number_in, plain, vtoc_of, words_in}
pub use Rattle.page_control.specs.Tied.{frame_of, has_record, is_out, map_at, uid_in, vtoc_in, uid_at as Tied_uid_at}
pub use Rattle.page_control.specs.Ties.{IsTied}
pub use Rattle.page_control.specs.declared.Home.{Home}
pub use Rattle.page_control.specs.declared.Left.{Left}
pub use Rattle.page_control.specs.declared.Left.TheVariants.{Kept, Released}
pub use Rattle.seg_control.proofs.Places.{place_is}
pub use Rattle.seg_control.specs.Control.{Control, Links, is_for, kst_at, leads, leads_at, sdws_at, table_of, word_of}
unfoldable pub use Rattle.seg_control.specs.Control.{place_of}
pub use Rattle.seg_control.specs.Effects.{no_links, unlinked, worded}
pub use Rattle.seg_control.specs.Kept.{AreLinked, IsInactive, IsKept, read_at}
pub use Rattle.seg_control.specs.Moving.{next_out}
unfoldable pub use Rattle.seg_control.specs.Moving.{first_out}
pub use Rattle.seg_control.specs.Next.{AreActive, IsFirstInactive, link_at, made_active, no_link, superior_of, uids_of, words_in as Next_words_in}
unfoldable pub use Rattle.seg_control.specs.Next.{table_for}
pub use Rattle.seg_control.specs.declared.Link.{Link}
pub use Rattle.seg_control.specs.declared.Next.{Next}
pub use Rattle.seg_control.specs.declared.Next.TheVariants.{Activated, Victim, Whole}
pub use Rattle.storage_ops.proofs.ChainDown.{chain_first, chain_length, chain_next, chain_there, link_pool, link_superior, link_there}
pub use Rattle.storage_ops.proofs.Fresh.{dir_volume, new_length, seg_volume}
pub use Rattle.storage_ops.proofs.NodeLaws.{found_there}
pub use Rattle.storage_ops.proofs.PageFacts.{directory_found, room_of as PageFacts_room_of}
pub use Rattle.storage_ops.proofs.PageRoom.{full_told}
pub use Rattle.storage_ops.proofs.Refusals.{long_segment}
pub use Rattle.storage_ops.proofs.RoomsFound.{room_shown}
pub use Rattle.storage_ops.specs.Connecting.{HasOneToGo, IsChainDown, IsRight, link_of}
pub use Rattle.storage_ops.specs.Cut.{Commits, CutsPages, HasLengthSet, IsReady, IsTakenPast, IsTakenPastAt, KeepsRest, is_here, leaves, leaves as frame_left}
pub use Rattle.storage_ops.specs.CutOff.{CountsOthers, Erases, Paged, TakesHome, cut_at, cut_by, is_cleared, page_cleared, page_cut, paged, pages_cut, pages_from}
pub use Rattle.storage_ops.specs.Paged.{IsKnownAs, IsPageMade, IsSettled, done_or, page_left}
pub use Rattle.storage_ops.specs.Rooms.{move_target, room_of}
pub use Rattle.storage_ops.specs.Shown.{AreFresh, AreHoused, HasMoved, HasRowSet, IsStore, Shows, Storage as Stored, answered, empty_frames, home_of, is_there, pages_in, pages_of, refusal, who_at, with_known, with_vtocs}
pub use Rattle.processor.specs.Moves.{AreWords, IsLongEnough, next_move}
pub use Rattle.processor.specs.declared.Cpu.{Cpu}
pub use Rattle.processor.specs.declared.Move.{Move}
pub use Rattle.processor.specs.declared.Transfer.{Transfer}
pub use Rattle.page_control.proofs.Facts.{page_referred}
pub use Rattle.machine_model.proofs.ActiveSeen.{active_place, any_at, inactive_blank, some_within, within_some}
pub use Rattle.machine_model.proofs.AllEnded.{over_idle}
pub use Rattle.machine_model.proofs.ChainFacts.{AllFail, chain_active, first_there, turned}
pub use Rattle.machine_model.proofs.CommandFacts.{truncate_stands}
pub use Rattle.machine_model.proofs.DeleteKept.{freed_length}
pub use Rattle.machine_model.proofs.ChoiceLaws.{choice_bound, chosen}
pub use Rattle.machine_model.proofs.FindLaws.{find_true, first_idle}
pub use Rattle.machine_model.proofs.FitsKept.{none_fits}
pub use Rattle.machine_model.proofs.FlatAlike.{conserved_by}
pub use Rattle.machine_model.proofs.InsideLaws.{inside_is}
pub use Rattle.machine_model.proofs.ListLaws.{map_list}
pub use Rattle.machine_model.proofs.ListSizes.{pool_small, table_few}
pub use Rattle.machine_model.proofs.LookFacts.{IsInside}
pub use Rattle.machine_model.proofs.MachineBoot.{boot_keeps_all}
pub use Rattle.machine_model.proofs.MoverTied.{here_moving, leaving_moving}
pub use Rattle.machine_model.proofs.NumberLaws.{cut_long, take_cut, take_long}
pub use Rattle.machine_model.proofs.OffChain.{pool_one_off}
pub use Rattle.storage_ops.proofs.Less.{one_known}
pub use Rattle.machine_model.proofs.Returnable.{bound_is}
pub use Rattle.machine_model.proofs.SaysLaws.{cut_less}
pub use Rattle.machine_model.proofs.SharedLaws.{some_not_none, zeros_to}
pub use Rattle.machine_model.proofs.TieLaws.{none_some}
pub use Rattle.machine_model.proofs.TransferKept.{active_at, kept_with}
pub use Rattle.machine_model.proofs.VictimLaws.{first_pool}
pub use Rattle.machine_model.proofs.WordLaws.{found, word_within}
pub use Rattle.machine_model.proofs.WorkStep.{none_work}
pub use Rattle.machine_model.specs.Actions.{Action, Connect, Create, EmptyVictim, Start, activate_first, any_page, bring_cut, descriptors_taken, empty_victim, empty_when_read, evict_or_wait, first_taken, frames_taken, has_process, into_frame, is_empty, is_over, look_to_change, look_to_take, pool_of_node, take_or_commit, unless_read, what_taken, with_chain, with_cut_page, room_for as Actions_room_for, move_of as Actions_move_of}
unfoldable pub use Rattle.machine_model.specs.Actions.{action_of}
pub use Rattle.machine_model.specs.After.{by_outcome}
pub use Rattle.machine_model.specs.Boot.{booted, first_pages, first_run, first_state, first_store, first_vtocs, unused_entries, unused_records}
pub use Rattle.machine_model.specs.Commits.{branch_of, committed_at, cut_entry, first_past, frame_entry, frames_freed, gained, gone_entries, inactive_entries, inactive_if, left_after, lost, pages_past, stays, with_branch, with_cut, with_deleted, with_effect, with_made, with_truncated, without_page, without_pages}
unfoldable pub use Rattle.machine_model.specs.Foreseen.{AllCome}
pub use Rattle.machine_model.specs.Jobs.{accounts_left, are_zeros, cut_all, cut_one, here_if, leaving_if, left_of, note_of, page_back, page_in, page_or_zero, pages_back, rest_of, seg_back, seg_gone, segs_back, segs_gone, take_all, take_one, told_at, told_from, took, with_hand_moved, with_here, with_inactive, with_leaving, with_left, without_first_cut, without_first_frame, write_failed}
pub use Rattle.machine_model.specs.Keeps.{AreAccounts, IsConserved, IsFaithful, Keeps, StoreSays}
pub use Rattle.machine_model.specs.Movers.{mover_in, mover_of}
pub use Rattle.machine_model.specs.Promise.{KeepsAll}
pub use Rattle.machine_model.specs.Reads.{connected_of, cpu_at, cut_of_owner, descriptor_of, first_inactive, flat_of, frame_reading, frames_from, frames_in, frames_of_owner, free_place, here_in, home_in, is_active, is_connected, is_page_of, next_command, no_processor, or_zero, process_at, processor_at, run_at, superior_of_node, trailers_in}
pub use Rattle.machine_model.specs.Ready.{IsReadyFor, OwnsAll, OwnsFor, OwnsFrom}
pub use Rattle.machine_model.specs.Refusal.{uid_at_path, uid_of_command, uid_of_node, uid_of_number}
unfoldable pub use Rattle.machine_model.specs.Refusal.{move_to, outside_refusal, refusal_of, reply_of}
pub use Rattle.machine_model.specs.Returned.{IsLeaving, MayComeBack, MayRelink, with_all_here}
pub use Rattle.machine_model.specs.Said.{through, with_command, without_left}
pub use Rattle.machine_model.specs.Shutdown.{page_taken}
pub use Rattle.machine_model.specs.State.{Owner, State, Storage}
pub use Rattle.machine_model.specs.Steps.{booked, charged, fault_told, left_at, old_word, pages_after, told_by, with_active, with_created, with_owner, with_pages, with_store}
pub use Rattle.machine_model.specs.declared.Aim.{Aim}
pub use Rattle.machine_model.specs.declared.Aim.TheVariants.{Committing, Deactivating}
pub use Rattle.machine_model.specs.declared.CutDescriptor.{CutDescriptor}
pub use Rattle.machine_model.specs.declared.Processor.{Processor}
pub use Rattle.machine_tables.specs.Activated.{FindsFull, Joins, JoinsAt, NeedsVictim, links_of, wanted_pool}
pub use Rattle.machine_tables.specs.Claimed.{HasItsSegment, cuts_in, number_in as Claimed_number_in}
pub use Rattle.machine_tables.specs.Committed.{HasEffect, IsCommitted, TakesEffect, effect_for, reply_for}
pub use Rattle.machine_tables.specs.Gone.{ends_in, goes_inactive, inactive_entry, is_kept, left_entries, left_entry, next_frame_entry}
pub use Rattle.machine_tables.specs.Held.{AreLong, MayLook}
pub use Rattle.machine_tables.specs.Made.{HasPlace, IsMakeable}
pub use Rattle.machine_tables.specs.Meant.{refers, rule_of}
pub use Rattle.machine_tables.specs.Owned.{HasOwner, owner_by, owner_of}
pub use Rattle.machine_tables.specs.Parts.{KeepsSeats, Parts, first_words, outcome_of, shown, with_accounts, with_drives, with_pages_of, with_state, with_stored}
pub use Rattle.machine_tables.specs.Reading.{AreRead, lesser, read_by, test_of}
unfoldable pub use Rattle.machine_tables.specs.Reading.{least_from}
pub use Rattle.machine_tables.specs.Ready.{IsApplicable}
pub use Rattle.machine_tables.specs.Taken.{AreHere, IsEmptied, IsOldest, LeavesPast, is_bare}
pub use Rattle.machine_tables.specs.Truncated.{IsCommittedBut, here_again, uid_found}
pub use Rattle.machine_tables.specs.declared.claiming.Cuts.{Cuts}
pub use Rattle.machine_tables.specs.declared.owner.Holder.{Holder}
pub use Rattle.book.specs.declared.entries.Entry.{Entry as Entry_Entry}
