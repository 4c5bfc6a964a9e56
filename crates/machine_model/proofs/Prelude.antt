-- The names that the proofs of this crate take from elsewhere.
pub use Rattle.std.proofs.Common.{Bool, Contains, List, None, Option, Some, [], add-zero, ap, arith, cond, count_by, drop, eqb, false, get_or, if◌then◌else◌, inl, inr, is_none, is_some, le_of_eq, le_refl, le_trans, leb, length, map, not, position, refl, replicate, reverse, set, slice_get, subst, suc, sum, sum_by, sym, take, true, zero, zero-add, ℕ, ℤ, ◌&&◌, ◌*◌, ◌++◌, ◌+◌, ◌-◌, ◌<◌, ◌||◌, ◌∙◌, ◌∷◌, ◌≡◌, ◌≢◌, ◌≤◌, ◌⊎◌}
pub use Rattle.std.proofs.Math.Bool.{and-false}
pub use Rattle.std.proofs.lemmas.Bool.{and_from, eq-eqb, and_parts as bool_and_parts, cases_Bool, cases_eq, cases_lt, cond_both, eqb-true, false_from_ne_true, ne_eqb, not-false, not-true, or_left, or_parts, true_from_ne_false}
pub use Rattle.std.proofs.lemmas.Bool.Decides.{Decides-ltb, eqb_tells, leb_tells, nat_tests}
pub use Rattle.std.proofs.lemmas.Grind.{reverse_onto}
pub use Rattle.std.proofs.lemmas.List.{append-nil, append_assoc, get_or-replicate, get_or-set_other, get_or-set_same, get_or_past, length-append, length-map, length-replicate, length-reverse, length-set}
pub use Rattle.std.proofs.lemmas.List.Elements.{Contains-get_or}
pub use Rattle.std.proofs.lemmas.List.Folds.{list_all-append, list_any-append, list_any_at, position_or_len-set}
pub use Rattle.std.proofs.lemmas.List.FromFn.{length-range_with_len}
pub use Rattle.std.proofs.lemmas.List.Quantifiers.{position-Some}
pub use Rattle.std.proofs.lemmas.List.Sums.{count_by-le-length, fails_before_first, prefix_len_stops, sum_by-cons, sum_by-drop_more, sum_by-set}
pub use Rattle.std.proofs.lemmas.Map.Made.{length-le_from_is_member}
pub use Rattle.std.proofs.lemmas.Map.Steps.{length-le_from_distinct_below}
pub use Rattle.std.proofs.lemmas.Option.{get_or_from_slice_get, none-some, same_Some, slice_get_within}
pub use Rattle.std.specs.Cmp.{nat_eq_equiv}
pub use Rattle.std.specs.Int.{is_positive}
pub use Rattle.std.specs.Int.RustNames.{unsigned_abs}
pub use Rattle.std.specs.List.{AllByRecursion, filter, find, list_all, list_any, position_or_len, range_with_len}
unfoldable pub use Rattle.std.specs.List.{IsDistinct}
pub use Rattle.std.specs.Option.{option_map}
pub use Rattle.std.specs.Prelude.{Err, IfSome, IsSome, IsSomeAnd, Ok, Result, codes, min, nat_le, nat_lt, negsuc, pos, slice_index, slice_index_or, ◌%◌, ◌/◌, ◌==◌, ◌^◌}
pub use Rattle.laws.proofs.Bools.{and_parts, by_not, first_false, not_both, not_true, or_cases, or_true, second_false}
pub use Rattle.laws.proofs.Lists.{few_kept, find_passes, position_none as no_place, within_from, zeros_read}
pub use Rattle.laws.proofs.Numbers.{and_both, eqb_self, lt_from}
pub use Rattle.laws.proofs.Options.{page_is, passed_there, some_same, some_unwrapped, times_few, times_one}
pub use Rattle.laws.proofs.Places.{map_kept}
pub use Rattle.mword.specs.Words.{AreZero}
pub use Rattle.mnames.specs.declared.modes.Mode.{Mode}
pub use Rattle.mnames.specs.declared.paths.Path.{Path}
pub use Rattle.mnames.specs.declared.principals.Who.{Who}
pub use Rattle.mnames.specs.declared.rows.Row.{Row as Named}
pub use Rattle.site_io.specs.Faults.{Rose}
pub use Rattle.script.specs.Forms.{ArePools, BeginsWithInitializer, IsPlan, weight}
unfoldable pub use Rattle.script.specs.Forms.{ends_once, is_command, is_process}
pub use Rattle.script.specs.Plans.{Plan, ProcessPlan, command_at, commands_of, nobody, process_of, who_of}
pub use Rattle.script.specs.References.{alters, new_word, permits, reference_of}
pub use Rattle.script.specs.declared.commands.Command.{Command}
pub use Rattle.script.specs.declared.commands.RefKind.{RefKind}
pub use Rattle.script.specs.declared.commands.Reference.{Reference}
pub use Rattle.assoc_mem.specs.Held.{Held, cleared as held_cleared, filled, frame_of, is_number, is_page, names_page, names_seg, nothing_held, page_of as held_page_of, seg_of, with_page, with_seg}
pub use Rattle.assoc_mem.specs.declared.HeldPage.{HeldPage}
pub use Rattle.assoc_mem.specs.declared.HeldSeg.{HeldSeg}
pub use Rattle.assoc_mem.specs.declared.What.{What}
pub use Rattle.book.specs.declared.entries.Entry.{Entry}
pub use Rattle.book.specs.declared.replies.Reply.{Reply}
pub use Rattle.tree_model.proofs.ChainLaws.{has_chains}
pub use Rattle.tree_model.proofs.Finds.{IsMember, branch_found as finds_branch_found, found_front, found_member, member_found, member_left, member_parts, member_right, past_front}
pub use Rattle.tree_model.proofs.SharedLaws.{directory_there, found_uid, joined_below, node_without, uid_below}
pub use Rattle.tree_model.proofs.TreeLaws.{IsUp, above_once, depth, lies, only_branch, superior_found, superior_in as tree_laws_superior_in, superior_up}
pub use Rattle.tree_model.specs.Access.{Row, takes_row}
unfoldable pub use Rattle.tree_model.specs.Access.{access_of}
pub use Rattle.tree_model.specs.Quotas.{getter_of, giver_of, with_quota_of}
unfoldable pub use Rattle.tree_model.specs.Quotas.{over_in}
pub use Rattle.tree_model.specs.Tree.{InSegment, LeadsTo, Missing, Node, Walk, above, account_of, branch_in, has_directory, is_branch, is_inferior, node_in, onward, pool_for, pool_of, quota_in, step_up, volume_in, walk_from, walk_in, with_node, without_node}
unfoldable pub use Rattle.tree_model.specs.Tree.{entries_on, taken_on, used_by}
pub use Rattle.tree_model.specs.Trees.{AreBelow, AreDirectories, HasChains, IsChain, IsTree, Joins}
pub use Rattle.known_segs.specs.Known.{number_for, uid_of, uid_of as known_of}
pub use Rattle.dir_tree.specs.Nodes.{chain_of}
pub use Rattle.accounts.specs.Maps.{AccountMaps, Counts, count_of}
pub use Rattle.flat_model.proofs.BookLaws.{legal_nil, legal_push, store_after-nil, store_after-push}
pub use Rattle.flat_model.proofs.HeldLaws.{held_by, held_in, held_of, held_parts, refused_free, tree_free}
pub use Rattle.flat_model.proofs.NodeLaws.{volume_found}
pub use Rattle.flat_model.proofs.OtherLaws.{effect_advances}
pub use Rattle.flat_model.proofs.PageLaws.{is_stored-without, none_from, stored_from}
pub use Rattle.flat_model.proofs.PathRefusals.{branch_says, segment_says}
pub use Rattle.flat_model.proofs.PlaceLaws.{heavy}
pub use Rattle.flat_model.proofs.QuotaTotals.{all_within, branch_found, effect_total, entry_total, node_found, older, only_found, segment_found, there_found}
pub use Rattle.flat_model.proofs.ReachLaws.{few_uids as few_reached, reached_boot, reached_fault, reached_on}
pub use Rattle.flat_model.proofs.RemoveLaws.{directory_gone, node_gone}
pub use Rattle.flat_model.proofs.RoomLaws.{room_is}
pub use Rattle.flat_model.proofs.ScriptLaws.{command_of}
pub use Rattle.flat_model.proofs.SharedLaws.{going_within, nonzero_alters, pools_few}
pub use Rattle.flat_model.proofs.ZeroLaws.{words_zero, zero_words}
pub use Rattle.flat_model.specs.Branches.{branch_at, directory_at, done_at, only_directory, only_segment, parts_of, segment_at, there_or, walked}
unfoldable pub use Rattle.flat_model.specs.Branches.{node_at}
pub use Rattle.flat_model.specs.Commands.{effect_by, effect_of, effect_of_tree_command, gone_on, is_end, reply_by, reply_to_command, reply_to_tree_command, takes_effect, tries_on}
unfoldable pub use Rattle.flat_model.specs.Commands.{after_command}
pub use Rattle.flat_model.specs.Legal.{IsAnswer, IsEnd, IsLawfulDo, MayFault, MayRelease, after_do, after_fault, have_ended, is_early, is_part, is_within, last_of, may_fail}
unfoldable pub use Rattle.flat_model.specs.Legal.{IsComplete, IsLawful, IsLegal, IsLegalFrom, after_entry, part, store_after, store_from}
pub use Rattle.flat_model.specs.Making.{delete_of, deletion_of, make_at, make_of}
unfoldable pub use Rattle.flat_model.specs.Making.{delete_reply, make_reply}
pub use Rattle.flat_model.specs.Moves.{MayMove, awaits_by, awaits_in, is_held_in, is_uid as moves_is_uid, lacks_record as moves_lacks_record, moved}
unfoldable pub use Rattle.flat_model.specs.Moves.{awaits_move, is_held_back}
pub use Rattle.flat_model.specs.Naming.{initiate_of, known_or_full, status_of}
unfoldable pub use Rattle.flat_model.specs.Naming.{initiate_reply, status_reply, terminate_reply}
pub use Rattle.flat_model.specs.Pages.{IsOnce, is_stored, is_stored_from, without_words}
unfoldable pub use Rattle.flat_model.specs.Pages.{is_zero_page}
pub use Rattle.flat_model.specs.References.{is_out_of_room, is_used_up, is_volume_full, reply_at, reply_in, reply_of as references_reply_of, room_reply, stores_page, word_reply, written, written_by}
unfoldable pub use Rattle.flat_model.specs.References.{after_reference as references_after_reference, reply_to_reference}
pub use Rattle.flat_model.specs.Rights.{acl_of, done_or_over, move_of as rights_move_of, nodes_moved}
unfoldable pub use Rattle.flat_model.specs.Rights.{acl_reply, move_reply}
pub use Rattle.flat_model.specs.Rooms.{first_below, has_room as has_room_flat, room_for}
pub use Rattle.flat_model.specs.Sizes.{is_lost, length_of}
unfoldable pub use Rattle.flat_model.specs.Sizes.{length_reply, truncate_reply}
pub use Rattle.flat_model.specs.Store.{Progress, Store, at_first, entries_of, is_turn, known_uid, numbers_of, progress_of, with_progress}
unfoldable pub use Rattle.flat_model.specs.Store.{boot}
pub use Rattle.custody_model.proofs.CleanLaws.{clean_nil, clean_push, custody_after-nil, custody_after-push}
pub use Rattle.custody_model.proofs.FineLaws.{fine_first, fine_next, going_cut, going_taken, names_descriptor_same, names_same, nobody_holds_going_page, nobody_holds_going_seg, nobody_holds_page, nobody_holds_seg, none_has}
pub use Rattle.custody_model.proofs.SharedLaws.{any_turned, has_head, has_tail}
pub use Rattle.custody_model.specs.Allowed.{HasHadItsTurn, IsAllowed, IsFront, IsPageAt, MayActivate, MayAnswer as MayAnswerBy, MayDeactivate, MayDo, MayGo, MayJoin, MayLeave, MayRehome, MayTakeSeg, NamesAllGoing, NobodyHoldsPage, NobodyHoldsSeg, SomethingGoes, is_word_or_done, next_command as next_of, stores, superior_in, superior_in as node_superior}
unfoldable pub use Rattle.custody_model.specs.Clean.{custody_after}
pub use Rattle.custody_model.specs.Custody.{Custody, Seat, bound_page as custody_bound_page, cleared, cut as custody_cut, filled as filled_in, given_back, has, is_current_descriptor, is_current_frame, is_going_descriptor, is_going_frame, is_started as custody_is_started, is_uid, leads_to, names_descriptor, names_frame, names_number, page_of, range, ready_at_first, reconnected, taken as custody_taken, uid_of_page}
pub use Rattle.custody_model.specs.Effects.{HasNoDescriptor, HasNoPage, IsInNoFrame, IsOutOfUse, LosesNoPage, MayTakeEffect, OfNode}
pub use Rattle.custody_model.specs.Fine.{FillsOnline, Fine, NoneDue, pending_after}
pub use Rattle.custody_model.specs.Next.{answered_clear, at_put, at_put_two, is_try, queued as queued_by, released_by, signalled as next_signalled, told as next_told, with_descriptor, with_frame as next_with_frame, with_seat}
unfoldable pub use Rattle.custody_model.specs.Next.{custody_next}
pub use Rattle.custody_model.specs.declared.DescriptorUse.{DescriptorUse}
pub use Rattle.custody_model.specs.declared.FrameUse.{FrameUse}
pub use Rattle.page_table.specs.PageTable.{ptw_at}
pub use Rattle.page_table.specs.declared.Ptw.{Ptw}
pub use Rattle.vtoc.specs.Vtoc.{Entry as VtocEntry, entry_at as vtoc_entry_at, record_at, records_in, with_record}
pub use Rattle.core_map.specs.Clock.{after_choice, clock_choice, frame_in as core_frame, is_idle, or_else, round_frames, unmarked}
unfoldable pub use Rattle.core_map.specs.Clock.{passed_over}
pub use Rattle.core_map.specs.CoreMap.{Core, after_reference, bound_page, frame_at, is_bound, is_free, is_started, least_free_frame, reads_of, started_page, with_frame as core_map_with_frame}
pub use Rattle.core_map.specs.declared.Frame.{Frame}
pub use Rattle.core_map.specs.declared.Frame.TheVariants.{Bound, Free}
pub use Rattle.seg_mover.proofs.Records.{HasTaken as RecordsHasTaken, has_taken}
pub use Rattle.seg_mover.specs.Homes.{map_at}
pub use Rattle.seg_mover.specs.Moves.{begun}
pub use Rattle.seg_mover.specs.Records.{flags_taken}
pub use Rattle.seg_mover.specs.declared.Mover.{Mover}
pub use Rattle.active_segs.specs.Active.{ActiveSegs, HasNoInferior, IsActive, IsOneToOne, IsTree as ActiveIsTree, deactivated as active_deactivated, entry_at, no_segments, superior_at, superior_in as active_superior_in, table_at, uid_at, uid_in}
pub use Rattle.active_segs.specs.Pool.{IsInPool, first_of, size_of}
pub use Rattle.active_segs.specs.Victim.{HasOneOffChain, IsOffChain, first_off_chain, hand_of, hand_past, is_inferior_in, is_inferior_of, leaf_of, least_inferior, least_inferior_of, off_chain, places_from, round_pool, stead_of, victim_of}
unfoldable pub use Rattle.active_segs.specs.Victim.{leaf_below}
pub use Rattle.active_segs.specs.declared.Entry.{Entry as Active, Entry as Segment}
pub use Rattle.descriptor_seg.specs.Descriptors.{sdw_at}
pub use Rattle.descriptor_seg.specs.declared.Sdw.{Sdw}
pub use Rattle.trailers.specs.Trailer.{cut_off as trailer_gone, leads_to as is_trailer, trailers_of}
pub use Rattle.page_control.proofs.Modified.{bindings_modified, reads_modified}
pub use Rattle.page_control.specs.Counts.{is_full, size, taken as counts_taken}
pub use Rattle.page_control.specs.Effects.{cut as effects_cut, erased, evicted, framed, referred, word_of_left, word_put}
pub use Rattle.page_control.specs.Moves.{modified_of, rehomed_word}
unfoldable pub use Rattle.page_control.specs.Moves.{rehomed}
pub use Rattle.page_control.specs.Picture.{is_binding, words_at, words_filed, words_held}
unfoldable pub use Rattle.page_control.specs.Picture.{is_filed_at, words_of_page}
pub use Rattle.page_control.specs.Plain.{Plain, binding_at, bindings, frame_in, frame_in as frame_in_pages, frame_in as store_frame, record_of, words_in}
pub use Rattle.page_control.specs.Tied.{flags_in, has_record, is_out as is_out_word, uid_at as tied_uid_at, vtoc_in}
pub use Rattle.page_control.specs.declared.Home.{Home}
pub use Rattle.page_control.specs.declared.Left.{Left}
pub use Rattle.page_control.proofs.Facts.{page_referred}
pub use Rattle.seg_control.proofs.Chains.{words_few}
pub use Rattle.seg_control.specs.Control.{Links, is_for, kst_at, leads, leads_at, sdws_at, table_of, word_of}
unfoldable pub use Rattle.seg_control.specs.Control.{place_of}
pub use Rattle.seg_control.specs.Effects.{cut_one as descriptor_cut, linked, tabled, unlinked, worded}
pub use Rattle.seg_control.specs.Kept.{IsHomeOf, IsKnownAt, read_at, times}
pub use Rattle.seg_control.specs.Moving.{IsUnread, next_out, pair_of, volumes_of}
unfoldable pub use Rattle.seg_control.specs.Moving.{first_out}
pub use Rattle.seg_control.specs.Next.{filed_word, made_active}
unfoldable pub use Rattle.seg_control.specs.Next.{table_for}
pub use Rattle.storage_ops.specs.References.{is_spent}
pub use Rattle.storage_ops.specs.Shown.{HaveRights, IsCut, ShowsTree, answered as shown_answered, home_of, is_refusal, is_there, pages_in, pages_of, refusal, who_at}
unfoldable pub use Rattle.storage_ops.specs.Shown.{is_filed, picture}
pub use Rattle.processor.specs.Moves.{by_descriptor, by_held, by_page, by_seg, by_word, next_move}
pub use Rattle.processor.specs.declared.Cpu.{Cpu}
pub use Rattle.processor.specs.declared.Move.{Move}
pub use Rattle.processor.specs.declared.Transfer.{Transfer}
pub use Rattle.machine_model.specs.Actions.{Action, ForClear, ForOwner, ForTransfer, HasEnded, IsStopped, Load, Online, TakeSupervisor, Waits, WhileIdle, activate_first, activate_in, any_page, bring_cut, by_move, clear_or, come_to, copy_or_commit, create_unless, descriptors_taken, empty_victim, empty_when_read, evict_or_wait, finish_of, first_taken, frame_read_from, frames_taken, go_on_with, has_had_its_turn, has_process, into_frame, is_empty, is_over, load_or_idle, look_at_descriptor, look_at_word, look_for, look_for_command, look_for_reference, look_inside, look_of, look_to_change, look_to_create, look_to_take, look_unless, move_of, move_or, once_cleared, own_or_run, pool_of_node, refer_or_take, room_for as actions_room_for, run_process, take_or_commit, take_or_wait, transfer_or, unless_read, what_taken, with_chain, with_cut_page}
unfoldable pub use Rattle.machine_model.specs.Actions.{action_of}
pub use Rattle.machine_model.specs.After.{Outcome, by_outcome, no_call}
unfoldable pub use Rattle.machine_model.specs.After.{after}
pub use Rattle.machine_model.specs.Boot.{booted, first_run}
pub use Rattle.machine_model.specs.Chains.{each_seg, gone_segs, gones, page_at, page_or_zero, takes}
pub use Rattle.machine_model.specs.Changes.{activated, answered, back, back_seg, brought as page_brought, came_online as changes_came_online, cleared_at, connected, counted, cut, deactivated, deactivated as no_more_active, done_dropping, dropped, emptied as changes_emptied, failed as changes_failed, gone, gone_seg, here, left, loaded as changes_loaded, lost, page_filled as changes_page_filled, released, reseated, running, seg_filled as changes_seg_filled, signalled as signal_given, started as page_started, taken, taking_part, told_at, warned, with_descriptor_cut, with_frame_taken, with_held_page, with_held_seg, with_transfer}
pub use Rattle.machine_model.specs.Commits.{committed, committed_at, cut_entry, first_past, frame_entry, frames_freed, gone_entries, inactive_entries, inactive_if, left_after, lost as commits_lost, pages_past, stays, with_branch, with_cut, with_cut_in, with_deleted, with_effect, with_links, with_made, with_nodes, with_truncated, without_page, without_pages}
pub use Rattle.machine_model.specs.Custodial.{AreApart, AreDistinct, AreHeldPages, AreHeldSegs, AreOfProcess, AreUnderWay, FitsPhase, HoldsRight, IsAimed, IsOwned, IsRun, IsShaped, IsTied, KeepsBook, has_cut, is_out, is_pending, is_pending_in, names, says, says_in, waits_for, waits_in}
pub use Rattle.machine_model.specs.Entitled.{AreEntitled, HoldEntitled, IsEntitled, IsEntitledToAll}
pub use Rattle.machine_model.specs.Finishing.{AreAlike, AreOf, CanActivate, CanEmpty, CanEvict, CanStart, Clears, Comes, Commands, HasLeft, HasLoaded, HasLost, HasMoved, IsAnswered, IsCleared, IsEnded, IsFilled, IsIn, IsReplied, IsWantedPage, JobStep, Leaves, Loads, MayRelease as FinishingMayRelease, Reads, Rule, Step, Works, activates, answers, awaits_clear, awaits_transfer, begins_move, clears, comes, commits_move, connects, copies, empties, empties_at_once, ends, enters, entry_for, faults, fills, frees_frame, frees_page, gives_up, idles, is_bound as finishing_is_bound, is_wanted_here, leaves, loads, loses, not_reading, now_reading, owns, page_of as finishing_page_of, reads, replies, rule_by, signals, starts, takes_for_commit, takes_frame, takes_segment, uid_of as finishing_uid_of, waits, with_bound, with_link, with_runners, with_stored, without_owner, works}
unfoldable pub use Rattle.machine_model.specs.Finishing.{rule_of}
pub use Rattle.machine_model.specs.Fitting.{IsFitting}
pub use Rattle.machine_model.specs.Foreseen.{CanTell, Comes as ForeseenComes, Foresees, GoesOn, HasDescriptor, IsLook, IsPlaced, IsReading as ForeseenIsReading, KeepsLink, MayAnswer, MayConnect, MayEmpty, MayEnter, MayLose, WantsPage, full_then, full_there, lack_of, stored_then}
unfoldable pub use Rattle.machine_model.specs.Foreseen.{AllCome}
pub use Rattle.machine_model.specs.Holding.{holding, led_to, seen}
pub use Rattle.machine_model.specs.Jobs.{accounts_left, are_zeros, cut_all, cut_one, deactivated_one, deactivation_begun, emptied, entries_left, eviction_begun, eviction_done, here_if, leaving_if, left_of, note_of, owner_signalled, page_back, page_done, page_gone, page_in, page_or_zero as jobs_page_or_zero, pages_back, phase_signalled, rest_of, seg_back, seg_gone, segment_taken, segs_back, segs_gone, signalled, take_all, take_one, told_at as jobs_told_at, told_from, took, victim_taken, with_choice, with_hand_moved, with_here, with_inactive, with_leaving, with_left, with_relink, without_first_cut, without_first_frame, write_failed}
pub use Rattle.machine_model.specs.Keeps.{AreAccounts, AreThere, HadRights, IsAtWork, IsAtWork as AtWork, IsConserved, IsFaithful, Keeps, StoreKept, StoreSays, is_fault}
pub use Rattle.machine_model.specs.Lacking.{IsFirstWithRoom, IsMovedFor, LacksRecord, MovesFor, MovesForNext, MovesIn, Tables, has_room, tables_of}
pub use Rattle.machine_model.specs.Looping.{AwaitsClear, AwaitsTransfer, CommandDone, CommandStep, Goes, HasTaken, IsMended, IsNearer, IsPast, IsReader, IsReference, IsSameCommand, IsUnderWay, JobDone, JobFell, OwnerStep, RoundDone, command_gauge, is_at, lack_at}
pub use Rattle.machine_model.specs.Measures.{IsSmall, Parts, chain_of as wanted_chain, command_left, frame_lack, is_active as measures_is_active, is_of, is_over as measures_is_over, job_left, lack, missing, page_fits, parts_of as measures_parts_of, rank_of, reads_page, room_lack, stage_left, unlinked as measures_unlinked, want_lack, wanted_fits, wanted_link, work_left}
unfoldable pub use Rattle.machine_model.specs.Measures.{all_rank, command_rank, dues, has_free, idle_links, is_here, job_rank, off_links, offline, over, readers}
pub use Rattle.machine_model.specs.Movers.{AsksMover, mover_in, mover_of}
pub use Rattle.machine_model.specs.Moves.{copy_failed, move_begun, move_committed, mover_to, moving, page_copied, past_page, volumes_in, with_copy, with_move, with_moved, without_move}
pub use Rattle.machine_model.specs.Outline.{CommitCommand, Copying, EmptyPlace, Ended, EvictFrame, Keeper, Length, Look, Moved, Other, Outline, Refer, Runner, Stage, Taken, Truncate, Turn, Waiting, WaitsFor, Want, Work, at_stage, frame_in as outline_frame_in, no_runner, runner_at, want_at, with_entry, with_frame, with_runner}
pub use Rattle.machine_model.specs.OutlineKept.{AreSpared, AreTied, EndsChain, FitsStage, FitsWork, HasJob, HasSizes, IsAtWork as OutlineKeptIsAtWork, IsKept, is_spared, is_wanted}
pub use Rattle.machine_model.specs.Outlined.{Around, around, bare, cut_page, first_frame, holds_page, holds_seg, is_linked, keeper_of, lacks_record, left_in, left_of as outlined_left_of, reference_in, runner_by, runner_of, stage_of, want_by, want_in, want_known, want_lengthened, want_of, want_of_command, want_of_reference, want_truncated, work_of}
unfoldable pub use Rattle.machine_model.specs.Outlined.{outline_of}
pub use Rattle.machine_model.specs.Promise.{IsMachine, KeepsAll}
pub use Rattle.machine_model.specs.Reading.{AllRead, IsReadFor, IsReading, Refers, Truncates, Wants}
pub use Rattle.machine_model.specs.Reads.{connected_of, cpu_at, cut_of_owner, descriptor_of, first_inactive, flat_of, frame_reading, frames_from, frames_in, frames_of_owner, free_place, here_in, home_in, is_active, is_connected, is_due, is_page_of, length_in, mode_in, next_command, no_processor, no_run, or_zero, places_in, process_at, processor_at, run_at, superior_of_node, trailers_in}
pub use Rattle.machine_model.specs.Ready.{IsReadyFor, IsRemovable, IsTakenFrom, IsTakenPast, OwnsAll, OwnsFor, OwnsFrom}
pub use Rattle.machine_model.specs.Refusal.{is_of_room, is_outside, only, uid_at_path, uid_of_command, uid_of_node, uid_of_number}
unfoldable pub use Rattle.machine_model.specs.Refusal.{move_to, outside_refusal, refusal_of, reply_of, room_refusal}
pub use Rattle.machine_model.specs.Returned.{IsLeaving, IsRelinkable, MayComeBack, MayRelink, with_all_here}
pub use Rattle.machine_model.specs.Rounds.{HasStepped, IsGoing, IsOwnedBy}
pub use Rattle.machine_model.specs.Runs.{anyone, failed, finished, machine_of, machine_with, plan_with, process_for, ran, replies_of, row_for, stepped, until, visit_failed, visited}
unfoldable pub use Rattle.machine_model.specs.Runs.{book_of}
pub use Rattle.machine_model.specs.Said.{Says, left_page, shown_after, through, with_command, with_made_page, without_left}
pub use Rattle.machine_model.specs.Scheduled.{AreScheduled, HasTurn, IsScheduled, MayRun}
pub use Rattle.machine_model.specs.Seen.{Seen, bound_use, cut_uid, cut_use, descriptor_use, flat, frame_use, frame_use as use_of, is_cut_at, read_use, seat_of, shown}
pub use Rattle.machine_model.specs.Shutdown.{after_visit, page_taken, visited_if}
pub use Rattle.machine_model.specs.State.{Owner, State, Storage}
pub use Rattle.machine_model.specs.Steps.{activated_at, answered as steps_answered, booked, brought, came_online, cleared_at as steps_cleared_at, connected_to, fault_told, frame_lost, goes_on, held_page, held_seg, is_its_end, left_at, loaded, looking, old_word, page_created, page_filled, page_made, pages_after, progress_of_run, queued, run_after, seg_filled, started, told, told_by, transfer_failed, transferred, uid_of_held, went_through, with_created, with_faults, with_link as with_link_of, with_owner, with_pages, with_processor, with_store, with_word}
pub use Rattle.machine_model.specs.Taking.{GoesJust, IsAlone, IsTakenBy, IsTakenFor, TakenIn, TakenTo, TakesDescriptor, TakesPage, WasBrought}
pub use Rattle.machine_model.specs.Turns.{calls_drive, moves, turn_of}
pub use Rattle.machine_model.specs.Unstuck.{Goes as UnstuckGoes, HaveSteps, SomeMoves}
pub use Rattle.machine_model.specs.Visits.{AreIdle}
pub use Rattle.machine_model.specs.Whole.{IsWhole, Spares, TakenWhole, aimed_at, goes_in, going_for}
pub use Rattle.machine_model.specs.Working.{AreNumbered, FailsBy, FailsIn, IsLeaf, IsReached, IsWorking, MayChange, MayFailBy, OwnsFew, TakesSome}
pub use Rattle.machine_model.specs.declared.Aim.{Aim}
pub use Rattle.machine_model.specs.declared.CutDescriptor.{CutDescriptor}
pub use Rattle.machine_model.specs.declared.Phase.{Phase}
pub use Rattle.machine_model.specs.declared.Processor.{Processor}
pub use Rattle.machine_model.specs.declared.Run.{Run}
