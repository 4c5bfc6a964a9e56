-- The first laws of this crate: of places in lists, of words and frames, and of what is counted.
pub use Rattle.machine_model.proofs.Prelude.{AccountMaps, Action, Active, ActiveIsTree, ActiveSegs, Aim, AllByRecursion, AllRead, AreAlike, AreApart, AreBelow, AreDirectories, AreDistinct, AreEntitled, AreHeldPages, AreHeldSegs, AreIdle, AreNumbered, AreOf, AreOfProcess, ArePools, AreScheduled, AreSpared, AreThere, AreTied, AreUnderWay, Around, AsksMover, AtWork, AwaitsClear, AwaitsTransfer, BeginsWithInitializer, Bool, Bound, CanActivate, CanEmpty, CanEvict, CanStart, CanTell, Clears, Comes, Command, CommandDone, CommandStep, Commands, CommitCommand, Contains, Copying, Core, Counts, Cpu, Custody, CutDescriptor, Decides-ltb, DescriptorUse, EmptyPlace, Ended, EndsChain, Entry, Err, EvictFrame, FailsBy, FailsIn, FillsOnline, Fine, FinishingMayRelease, FitsPhase, FitsStage, FitsWork, ForClear, ForOwner, ForTransfer, ForeseenComes, ForeseenIsReading, Foresees, Frame, FrameUse, Free, Goes, GoesJust, HadRights, HasHadItsTurn, HasJob, HasLeft, HasLoaded, HasLost, HasMoved, HasNoDescriptor, HasNoInferior, HasNoPage, HasOneOffChain, HasSizes, HasStepped, HasTaken, HasTurn, HaveRights, HaveSteps, Held, HeldPage, HeldSeg, HoldEntitled, HoldsRight, Home, IfSome, IsActive, IsAimed, IsAllowed, IsAlone, IsAnswer, IsAnswered, IsAtWork, IsChain, IsConserved, IsCut, IsEnded, IsEntitled, IsEntitledToAll, IsFaithful, IsFilled, IsFirstWithRoom, IsFitting, IsFront, IsGoing, IsHomeOf, IsIn, IsInNoFrame, IsInPool, IsKept, IsKnownAt, IsLawfulDo, IsLeaf, IsLeaving, IsLook, IsMachine, IsMember, IsMovedFor, IsNearer, IsOffChain, IsOneToOne, IsOutOfUse, IsOwned, IsOwnedBy, IsPageAt, IsPast, IsPlaced, IsPlan, IsReadFor, IsReader, IsReading, IsReadyFor, IsReference, IsRelinkable, IsRemovable, IsReplied, IsRun, IsScheduled, IsShaped, IsSomeAnd, IsTakenBy, IsTakenFor, IsTakenFrom, IsTakenPast, IsTied, IsTree, IsUnderWay, IsUnread, IsUp, IsWantedPage, IsWhole, IsWorking, JobDone, JobFell, JobStep, Joins, Keeper, Keeps, KeepsAll, KeepsBook, KeepsLink, LacksRecord, LeadsTo, Leaves, Left, Length, Links, List, Loads, Look, LosesNoPage, MayActivate, MayAnswer, MayAnswerBy, MayChange, MayComeBack, MayConnect, MayDeactivate, MayDo, MayEmpty, MayEnter, MayFailBy, MayFault, MayJoin, MayLeave, MayLose, MayMove, MayRehome, MayRelease, MayRelink, MayRun, MayTakeEffect, MayTakeSeg, Mode, Move, Moved, Mover, MovesFor, MovesForNext, MovesIn, Named, NamesAllGoing, NobodyHoldsPage, NobodyHoldsSeg, Node, None, NoneDue, OfNode, Ok, Option, Other, Outcome, Outline, OutlineKeptIsAtWork, Owner, OwnerStep, OwnsAll, OwnsFew, OwnsFor, OwnsFrom, Path, Phase, Plain, Plan, ProcessPlan, Processor, Progress, Ptw, Reads, RefKind, Refer, Reference, Refers, Reply, Result, Rose, RoundDone, Row, Rule, Run, Runner, Says, Sdw, Seat, Seen, Segment, Some, SomeMoves, SomethingGoes, Spares, Stage, State, Step, Storage, Store, StoreKept, StoreSays, Tables, Taken, TakenIn, TakenTo, TakenWhole, TakesDescriptor, TakesPage, TakesSome, Transfer, Truncate, Truncates, Turn, UnstuckGoes, VtocEntry, Waiting, WaitsFor, Walk, Want, Wants, WantsPage, WasBrought, What, WhileIdle, Who, Work, Works, [], above, above_once, account_of, actions_room_for, activate_first, activate_in, activated, activated_at, activates, active_deactivated, active_superior_in, add-zero, after_choice, after_fault, after_reference, after_visit, aimed_at, alters, and-false, and_both, and_parts, answered, answered_clear, answers, any_page, any_turned, ap, append-nil, append_assoc, are_zeros, arith, around, at_first, at_put, at_put_two, at_stage, awaits_by, awaits_clear, awaits_in, awaits_transfer, back, back_seg, bare, begins_move, begun, binding_at, bindings, bindings_modified, booked, booted, bound_page, bound_use, branch_at, branch_found, branch_in, bring_cut, brought, by_descriptor, by_held, by_move, by_outcome, by_page, by_seg, by_word, calls_drive, cases_Bool, cases_eq, cases_lt, chain_of, changes_came_online, changes_emptied, changes_failed, changes_loaded, changes_page_filled, changes_seg_filled, clean_nil, clear_or, cleared, cleared_at, clears, clock_choice, come_to, comes, command_at, command_left, commands_of, commits_lost, commits_move, committed, committed_at, cond, cond_both, connected, connected_of, connected_to, connects, copies, copy_failed, copy_or_commit, core_frame, core_map_with_frame, count_by, count_by-le-length, count_of, counted, counts_taken, cpu_at, create_unless, custody_after-nil, custody_after-push, custody_bound_page, custody_cut, custody_is_started, custody_taken, cut, cut_all, cut_entry, cut_of_owner, cut_one, cut_page, cut_uid, cut_use, deactivated, deactivated_one, deactivation_begun, depth, descriptor_cut, descriptor_of, descriptor_use, descriptors_taken, done_dropping, drop, dropped, each_seg, effect_of, effect_total, effects_cut, emptied, empties, empties_at_once, empty_victim, empty_when_read, ends, enters, entries_left, entry_at, entry_total, eqb, eqb-true, eqb_self, eqb_tells, erased, evict_or_wait, evicted, eviction_begun, eviction_done, fails_before_first, false, false_from_ne_true, fault_told, faults, few_kept, filed_word, filled, fills, filter, find, find_passes, fine_first, finish_of, finishing_is_bound, finishing_page_of, finishing_uid_of, first_below, first_false, first_inactive, first_of, first_off_chain, first_past, first_run, first_taken, flags_in, flags_taken, flat, flat_of, found_member, found_uid, frame_at, frame_entry, frame_in, frame_in_pages, frame_lost, frame_of, frame_read_from, frame_reading, frame_use, framed, frames_freed, frames_from, frames_in, frames_of_owner, frames_taken, free_place, frees_frame, frees_page, full_then, full_there, get_or, get_or-replicate, get_or-set_other, get_or-set_same, get_or_past, getter_of, given_back, giver_of, gives_up, go_on_with, goes_in, goes_on, going_for, going_within, gone, gone_entries, gone_on, gone_seg, gone_segs, gones, hand_of, hand_past, has, has_chains, has_cut, has_directory, has_had_its_turn, has_head, has_process, has_record, has_room, has_room_flat, has_tail, has_taken, have_ended, held_by, held_in, held_of, held_page, held_page_of, held_parts, held_seg, here, here_if, here_in, holding, holds_page, home_in, home_of, idles, if◌then◌else◌, inactive_entries, inactive_if, inl, inr, into_frame, is_active, is_at, is_binding, is_bound, is_branch, is_connected, is_current_descriptor, is_current_frame, is_cut_at, is_due, is_empty, is_end, is_fault, is_for, is_free, is_full, is_going_descriptor, is_going_frame, is_held_in, is_idle, is_inferior, is_inferior_in, is_inferior_of, is_its_end, is_linked, is_lost, is_none, is_number, is_of, is_of_room, is_out, is_out_of_room, is_out_word, is_outside, is_over, is_page, is_page_of, is_pending, is_pending_in, is_positive, is_refusal, is_some, is_spared, is_spent, is_started, is_stored, is_stored-without, is_stored_from, is_there, is_trailer, is_try, is_turn, is_uid, is_used_up, is_volume_full, is_wanted, is_wanted_here, is_word_or_done, jobs_page_or_zero, jobs_told_at, keeper_of, known_uid, kst_at, lack, lack_of, lacks_record, le_refl, leads, leads_at, leads_to, leaf_of, least_free_frame, least_inferior, least_inferior_of, leaves, leaving_if, leb_tells, led_to, left, left_after, left_at, left_in, left_of, left_page, legal_nil, length, length-append, length-le_from_distinct_below, length-map, length-range_with_len, length-replicate, length-reverse, length-set, linked, list_all, list_all-append, list_any, list_any-append, list_any_at, load_or_idle, loads, look_at_descriptor, look_at_word, look_for, look_for_reference, look_inside, look_of, look_to_change, look_to_create, look_to_take, look_unless, looking, loses, lost, lt_from, made_active, map, map_at, map_kept, may_fail, measures_is_over, measures_parts_of, member_found, member_left, member_parts, member_right, min, modified_of, move_begun, move_committed, move_of, move_or, moved, mover_in, mover_of, mover_to, moves, moves_lacks_record, moving, names, names_descriptor, names_frame, names_number, names_page, names_seg, nat_le, nat_lt, nat_tests, ne_eqb, new_word, next_command, next_of, next_out, next_signalled, next_told, next_with_frame, no_call, no_more_active, no_place, no_processor, no_run, no_runner, no_segments, nobody, nobody_holds_going_page, nobody_holds_going_seg, nobody_holds_page, nobody_holds_seg, node_gone, node_in, node_superior, node_without, none_has, nonzero_alters, not, not-false, not-true, not_both, not_reading, not_true, note_of, nothing_held, now_reading, off_chain, old_word, older, once_cleared, only, only_found, only_segment, onward, option_map, or_cases, or_else, or_left, or_parts, or_true, or_zero, outline_frame_in, own_or_run, owner_signalled, owns, page_at, page_back, page_brought, page_copied, page_created, page_done, page_fits, page_gone, page_in, page_is, page_made, page_of, page_or_zero, page_referred, page_started, page_taken, pages_after, pages_back, pages_in, pages_of, pages_past, pair_of, parts_of, passed_there, past_page, pending_after, permits, phase_signalled, places_from, places_in, pool_for, pool_of, pool_of_node, pools_few, position, position-Some, position_or_len, position_or_len-set, process_at, processor_at, progress_of, progress_of_run, ptw_at, queued, queued_by, quota_in, range, range_with_len, read_at, read_use, reads, reads_modified, reads_of, ready_at_first, reconnected, record_at, record_of, records_in, refer_or_take, reference_in, reference_of, references_reply_of, referred, refl, refusal, refused_free, rehomed_word, released, released_by, replicate, replies, reply_at, reply_by, reply_to_command, reply_to_tree_command, reseated, rest_of, reverse, room_for, room_is, room_reply, round_frames, round_pool, run_after, run_at, run_process, runner_at, runner_by, runner_of, running, same_Some, says, says_in, sdw_at, sdws_at, seat_of, second_false, seen, seg_back, seg_gone, seg_of, segment_at, segment_taken, segs_back, segs_gone, set, shown, shown_after, shown_answered, signal_given, signalled, signals, size, size_of, slice_get, slice_index_or, some_same, some_unwrapped, stage_of, started, started_page, starts, stays, stead_of, step_up, store_after-nil, store_after-push, store_frame, stored_from, stored_then, stores, stores_page, subst, suc, sum, sum_by-cons, superior_at, superior_found, superior_in, superior_up, sym, table_at, table_of, tabled, tables_of, take, take_all, take_one, take_or_commit, take_or_wait, taken, takes, takes_effect, takes_for_commit, takes_frame, takes_segment, taking_part, there_or, through, tied_uid_at, times, times_few, times_one, told, told_at, told_by, told_from, took, trailer_gone, trailers_in, trailers_of, transfer_failed, transfer_or, transferred, tree_free, tree_laws_superior_in, tries_on, true, true_from_ne_false, turn_of, uid_at, uid_at_path, uid_in, uid_of, uid_of_command, uid_of_held, uid_of_node, uid_of_number, uid_of_page, unless_read, unlinked, unmarked, unsigned_abs, use_of, victim_of, victim_taken, visited_if, volume_found, volume_in, volumes_in, volumes_of, vtoc_entry_at, vtoc_in, waits, waits_for, waits_in, walk_from, walk_in, walked, want_at, want_by, want_in, want_known, want_lack, want_lengthened, want_of, want_of_command, want_of_reference, want_truncated, wanted_chain, wanted_fits, warned, went_through, what_taken, who_at, who_of, with_all_here, with_bound, with_chain, with_choice, with_command, with_copy, with_created, with_cut, with_cut_page, with_deleted, with_descriptor, with_descriptor_cut, with_effect, with_faults, with_frame, with_frame_taken, with_hand_moved, with_held_page, with_held_seg, with_here, with_inactive, with_leaving, with_left, with_link, with_links, with_made, with_made_page, with_move, with_moved, with_node, with_nodes, with_owner, with_pages, with_quota_of, with_record, with_relink, with_runner, with_runners, with_seat, with_store, with_stored, with_transfer, with_truncated, with_word, within_from, without_first_cut, without_first_frame, without_left, without_move, without_node, without_owner, without_page, without_pages, without_words, word_of, word_of_left, word_put, word_reply, worded, words_at, words_few, words_held, words_in, words_zero, work_of, works, write_failed, written, written_by, zero, zero-add, zero_words, zeros_read, ℕ, ℤ, ◌%◌, ◌&&◌, ◌*◌, ◌++◌, ◌+◌, ◌-◌, ◌/◌, ◌<◌, ◌==◌, ◌^◌, ◌||◌, ◌∙◌, ◌∷◌, ◌≡◌, ◌≢◌, ◌≤◌, ◌⊎◌}
unfoldable pub use Rattle.machine_model.proofs.Prelude.{AllCome, IsDistinct, IsLawful, access_of, acl_reply, action_of, after, after_entry, all_rank, awaits_move, boot, command_rank, custody_after, custody_next, delete_reply, dues, entries_on, first_out, has_free, is_filed, is_filed_at, is_held_back, is_here, is_zero_page, job_rank, leaf_below, length_reply, move_to, node_at, outline_of, outside_refusal, over, passed_over, picture, place_of, readers, references_after_reference, refusal_of, rehomed, reply_of, reply_to_reference, room_refusal, rule_of, store_after, table_for, taken_on, terminate_reply, truncate_reply, used_by, words_of_page}
pub use Rattle.machine_model.proofs.ActionCases.{action_by, by_end}
pub use Rattle.machine_model.proofs.AllEnded.{over_ended, over_idle, runs_answered, runs_failed}
pub use Rattle.machine_model.proofs.BookNext.{book_apart, book_next}
pub use Rattle.machine_model.proofs.CountLaws.{any_set, count_cons, dues_set, here_more, here_now, here_same, lack_few, lack_le, readers_set, wanted_more}
pub use Rattle.machine_model.proofs.FlatAlike.{IsAlike, alike, alike_by, alike_on, alike_shown, all_still, conserved_by, done_alike, fault_alike, is_still, one_still, refused_alike}
pub use Rattle.machine_model.proofs.ListLaws.{map_length, map_list, put_list, put_lists, within_by}
pub use Rattle.machine_model.proofs.OutlineAlone.{IsFree, answer_outlined, clear_outlined, commit_outlined, create_outlined, ends_job, enter_outlined, failed_outlined, fault_outlined, fill_page_outlined, fill_seg_outlined, idle_outlined, leave_outlined, left_is, load_outlined, online_outlined, outline_left, owned_outlined, owner_none, plain_outlined, running_at, step_to, through_outlined, told_left, transfer_outlined}
pub use Rattle.machine_model.proofs.OutlineJob.{activate_outlined, connect_outlined, deactivate_at_once_outlined, deactivate_outlined, eviction_outlined, give_up_outlined, in_job, in_look, in_stage, job_to, left_nodes, map_change, page_outlined, start_outlined}
pub use Rattle.machine_model.proofs.OutlineReads.{at_outline, is_owner, long_outline, map_at as outline_reads_map_at, rule_seen, seen_due, seen_online, seen_owns, seen_reading, seen_running, seen_since, seen_tried, set_map}
pub use Rattle.machine_model.proofs.OwnedLaws.{IsIdle, current_descriptor_is_not_going, cut_at_other, cut_at_same, cut_at_tells, distinct_push, filled_few, kept_step, like_active, like_descriptor, like_frame, like_seat, map_filled, nobody as owned_laws_nobody, owned_cut, owned_idle, owned_like, owned_take, pages_filled, pages_kept, push_other, push_same, right_alike, right_descriptor, right_frame, right_like, segs_filled, segs_kept, under_way_alike, leads_cut}
pub use Rattle.machine_model.proofs.Places.{by_place, by_places, one_place, one_place_of_two, put_here, put_map, put_other, put_two_here, put_two_map}
pub use Rattle.machine_model.proofs.RuleLaws.{tells as rule_laws_tells}
pub use Rattle.machine_model.proofs.SeenLaws.{bound_put, reads_put, reseated_seen}
pub use Rattle.machine_model.proofs.StepLaws.{clear_step, inside, none_due as step_laws_none_due, other_than, owner_step}
pub use Rattle.machine_model.proofs.TieLaws.{bound_used, none_some, not_there, other_use, other_use_here, out_none, page_used, tied_gone, tied_here, tied_lost, tied_start, tied_word, use_bound}
pub use Rattle.machine_model.proofs.WordLaws.{found, word_put as word_laws_word_put, word_within, is_for_same}
