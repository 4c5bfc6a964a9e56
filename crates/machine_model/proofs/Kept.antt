-- Laws that many files take of what an action keeps, and of what a look rests on.
pub use Rattle.machine_model.proofs.Laws.{action_by, by_end, deactivate_keeps, active_less, active_place, blank_less, deactivate_seen, inactive_blank, none_length, within_some, words_less, over_ended, over_idle, runs_failed, fault_keeps, owner_keeps, book_apart, chain_active, first_there, superior_active, CanTakeAll, GoesOn, HasGone, IsDone, IsSteady, LeavesRest, back_on, bound_shown, first_finish, goes_with, going_word, gone_done, gone_segs_keep, gones_keep, idle_done, names_uid, one_read, told_transfer, LeadsToSegment, delete_stands, length_stands, truncate_stands, here_more, here_now, here_same, lack_few, lack_le, readers_set, wanted_more, CanConnect, none_due, effect_has, frame_entry_has, took_has, truncated_has, choice_bound, find_true, first_idle, free_frame, number_new, page_new, position_at, position_none, unread_page, IsAlike, alike, alike_by, alike_on, alike_shown, all_still, done_alike, fault_alike, is_still, one_still, refused_alike, CanFinish, back_keeps, finish_with, gone_keeps, take_keeps, Stays, job_stays_all_back, all_taken, emptying, emptying_victim, job_stays_evicted, evicting, is_back, is_emptied, page_left, back_seen, told_has, told_online, told_process, told_reads, unread_put, map_list, within_by, FindsActive, FindsAll, FindsCut, FindsFull, FindsLink, FindsMove, FindsNoFrame, FindsNoVictim, FindsOut, FindsPage, FindsPlace, FindsRoom, FindsTaken, FindsVictim, IsAbout, IsBrought, IsInside, IsRefused, LookFinds, look_finds, owner_none, in_job, in_look, put_is, put_there, at_outline, is_owner, long_outline, seen_due, seen_online, seen_owns, seen_reading, seen_running, seen_since, IsIdle, cut_at_same, cut_at_tells, owned_laws_nobody, bound_here, idle_names, job_over, looking_idle, moves_idle, active_there, bound_word, null_word, stored_is, by_place, by_places, put_here, put_other, put_two_here, is_device, tree_plain, word_plain, pool_room_has_room, is_its, range_has, AccountMaps, Action, Active, ActiveSegs, Aim, AllByRecursion, AllRead, AreApart, AreDistinct, AreEntitled, AreHeldPages, AreHeldSegs, AreIdle, AreNumbered, AreOf, AreScheduled, AreThere, AreTied, AsksMover, AtWork, AwaitsClear, AwaitsTransfer, BeginsWithInitializer, Bool, Bound, CanActivate, CanEmpty, CanEvict, CanStart, Clears, Comes, Command, CommandDone, CommandStep, Commands, Core, Counts, Cpu, Custody, CutDescriptor, Decides-ltb, DescriptorUse, Ended, EndsChain, Entry, Err, FailsBy, FailsIn, Fine, FitsPhase, FitsStage, FitsWork, ForClear, ForOwner, ForTransfer, ForeseenIsReading, Foresees, Frame, FrameUse, Free, Goes, GoesJust, HadRights, HasHadItsTurn, HasJob, HasLeft, HasLoaded, HasLost, HasMoved, HasNoDescriptor, HasNoInferior, HasNoPage, HasSizes, HasStepped, HasTaken, HasTurn, HaveRights, HaveSteps, HeldPage, HeldSeg, HoldEntitled, IfSome, IsActive, IsAimed, IsAlone, IsAtWork, IsCut, IsEnded, IsEntitled, IsEntitledToAll, IsFaithful, IsFilled, IsFirstWithRoom, IsFitting, IsFront, IsGoing, IsIn, IsInPool, IsKept, IsKnownAt, IsLeaf, IsLeaving, IsLook, IsMachine, IsMember, IsMovedFor, IsNearer, IsOutOfUse, IsOwned, IsOwnedBy, IsPageAt, IsPast, IsPlan, IsReadFor, IsReader, IsReading, IsReadyFor, IsReference, IsRelinkable, IsRemovable, IsReplied, IsRun, IsScheduled, IsShaped, IsSomeAnd, IsTakenBy, IsTakenFor, IsTakenFrom, IsTakenPast, IsTied, IsTree, IsUnderWay, IsUnread, IsUp, IsWantedPage, IsWhole, IsWorking, JobDone, JobFell, Keeper, Keeps, KeepsAll, KeepsBook, KeepsLink, LacksRecord, Leaves, Left, Length, Links, List, Loads, Look, LosesNoPage, MayActivate, MayAnswer, MayAnswerBy, MayComeBack, MayConnect, MayDeactivate, MayDo, MayEmpty, MayEnter, MayFailBy, MayFault, MayJoin, MayLeave, MayLose, MayMove, MayRehome, MayRelease, MayRelink, MayRun, MayTakeEffect, Mode, Move, Moved, Mover, MovesFor, MovesForNext, MovesIn, Named, Node, None, NoneDue, OfNode, Ok, Option, Other, Outcome, Outline, Owner, OwnerStep, OwnsAll, OwnsFew, OwnsFor, OwnsFrom, Path, Phase, Plain, Plan, ProcessPlan, Processor, Progress, Ptw, Reads, RefKind, Refer, Reference, Refers, Reply, Result, Rose, RoundDone, Row, Rule, Run, Runner, Says, Sdw, Seen, Segment, Some, SomeMoves, Stage, State, Step, Storage, Store, StoreKept, StoreSays, TakenIn, TakenWhole, TakesDescriptor, TakesPage, TakesSome, Transfer, Truncate, Truncates, Turn, UnstuckGoes, WaitsFor, Want, Wants, WantsPage, WasBrought, What, WhileIdle, Who, Works, [], above, account_of, activated_at, after_fault, after_reference, after_visit, aimed_at, alters, and-false, and_parts, any_page, any_turned, ap, append-nil, append_assoc, are_zeros, arith, around, at_first, at_put, at_put_two, awaits_by, awaits_clear, awaits_in, awaits_transfer, back, bare, begun, binding_at, bindings, bindings_modified, booked, booted, bound_page, bound_use, branch_at, branch_found, by_descriptor, by_held, by_move, by_outcome, by_page, by_seg, by_word, calls_drive, cases_Bool, cases_eq, cases_lt, chain_of, clean_nil, clear_or, clears, come_to, comes, command_at, command_left, commits_lost, committed, committed_at, cond, cond_both, connected_of, connected_to, copy_failed, copy_or_commit, core_map_with_frame, count_by, count_of, counts_taken, cpu_at, custody_after-nil, custody_bound_page, cut_all, cut_entry, cut_of_owner, cut_one, cut_page, cut_uid, cut_use, deactivation_begun, descriptor_cut, descriptor_of, descriptor_use, descriptors_taken, drop, effect_of, effect_total, effects_cut, emptied, ends, enters, entries_left, entry_at, entry_total, eqb, eqb-true, eqb_self, eqb_tells, erased, eviction_begun, eviction_done, false, false_from_ne_true, fault_told, faults, few_kept, filled, fills, filter, find, fine_first, finish_of, finishing_is_bound, finishing_page_of, first_below, first_inactive, first_of, first_off_chain, first_past, first_run, first_taken, flags_taken, flat, flat_of, found_member, found_uid, frame_at, frame_entry, frame_in, frame_lost, frame_of, frame_read_from, frame_reading, frame_use, framed, frames_freed, frames_from, frames_in, frames_of_owner, frames_taken, free_place, full_there, get_or, get_or-replicate, get_or-set_other, get_or-set_same, get_or_past, getter_of, giver_of, go_on_with, goes_in, goes_on, going_for, going_within, gone, gone_entries, gone_seg, gone_segs, gones, hand_past, has, has_cut, has_directory, has_had_its_turn, has_head, has_process, has_record, has_room, has_room_flat, has_tail, has_taken, have_ended, held_page, held_page_of, held_seg, here_if, here_in, holding, home_in, home_of, idles, if◌then◌else◌, inactive_entries, inactive_if, inl, inr, is_active, is_at, is_bound, is_connected, is_cut_at, is_due, is_empty, is_end, is_fault, is_for, is_free, is_full, is_going_descriptor, is_going_frame, is_inferior, is_its_end, is_linked, is_lost, is_none, is_number, is_of, is_of_room, is_out, is_out_of_room, is_out_word, is_over, is_page, is_page_of, is_pending, is_positive, is_refusal, is_some, is_spent, is_stored, is_stored-without, is_there, is_trailer, is_uid, is_used_up, is_volume_full, is_wanted_here, is_word_or_done, jobs_page_or_zero, jobs_told_at, keeper_of, known_uid, kst_at, lack, lack_of, leads, leads_at, leads_to, least_free_frame, leaves, leaving_if, leb_tells, led_to, left_after, left_at, left_of, left_page, legal_nil, length, length-append, length-le_from_distinct_below, length-map, length-range_with_len, length-replicate, length-set, list_all, list_all-append, list_any, list_any-append, load_or_idle, loads, look_of, looking, loses, map, map_at, map_kept, may_fail, measures_is_over, measures_parts_of, min, modified_of, move_begun, move_committed, move_of, moved, mover_of, mover_to, moves, moves_lacks_record, moving, names, names_frame, names_seg, nat_le, nat_lt, nat_tests, ne_eqb, new_word, next_command, next_out, no_call, no_more_active, no_processor, no_run, no_runner, no_segments, nobody, node_gone, node_in, node_superior, node_without, none_has, nonzero_alters, not, not-false, not-true, not_both, not_reading, note_of, nothing_held, off_chain, old_word, older, once_cleared, only, only_found, option_map, or_cases, or_parts, or_true, or_zero, outline_frame_in, own_or_run, owner_signalled, owns, page_at, page_back, page_copied, page_created, page_done, page_fits, page_gone, page_in, page_is, page_made, page_of, page_or_zero, page_referred, page_taken, pages_after, pages_back, pages_in, pages_of, pages_past, pair_of, parts_of, passed_there, past_page, permits, phase_signalled, places_in, pool_for, pool_of, pool_of_node, pools_few, position, position_or_len, process_at, processor_at, progress_of, ptw_at, quota_in, range, range_with_len, read_at, read_use, reads, reads_modified, reads_of, ready_at_first, refer_or_take, reference_in, reference_of, referred, refl, rehomed_word, released_by, replicate, replies, reply_to_command, rest_of, room_for, room_is, room_reply, run_after, run_at, run_process, runner_at, runner_by, same_Some, says, sdw_at, sdws_at, seen, seg_back, seg_gone, seg_of, segment_at, segment_taken, segs_back, segs_gone, set, shown, shown_answered, signalled, size, slice_get, slice_index_or, some_same, some_unwrapped, stage_of, started, started_page, stays, store_after-nil, store_after-push, store_frame, stores, stores_page, subst, suc, sum, sum_by-cons, superior_found, superior_in, superior_up, sym, table_of, tabled, tables_of, take, take_all, take_one, take_or_wait, taken, takes_effect, times, times_few, times_one, told, told_by, told_from, took, trailer_gone, trailers_in, trailers_of, transfer_failed, transfer_or, transferred, tree_free, true, turn_of, uid_at, uid_at_path, uid_in, uid_of, uid_of_command, uid_of_node, uid_of_number, uid_of_page, unlinked, unsigned_abs, use_of, victim_of, victim_taken, visited_if, volume_found, volume_in, volumes_in, volumes_of, waits, waits_for, want_at, want_by, want_in, want_known, want_lack, want_lengthened, want_of, want_of_command, want_of_reference, want_truncated, wanted_chain, wanted_fits, went_through, what_taken, who_at, who_of, with_all_here, with_bound, with_choice, with_command, with_copy, with_cut, with_deleted, with_effect, with_faults, with_frame, with_hand_moved, with_here, with_inactive, with_left, with_links, with_made, with_move, with_moved, with_node, with_nodes, with_owner, with_pages, with_quota_of, with_relink, with_runner, with_store, with_truncated, within_from, without_first_cut, without_first_frame, without_left, without_move, without_node, without_page, without_words, word_of, word_put, word_reply, words_few, words_in, words_zero, work_of, works, write_failed, written, zero, zero_words, ℕ, ℤ, ◌%◌, ◌&&◌, ◌*◌, ◌++◌, ◌+◌, ◌-◌, ◌/◌, ◌<◌, ◌==◌, ◌^◌, ◌||◌, ◌∙◌, ◌∷◌, ◌≡◌, ◌≢◌, ◌≤◌, ◌⊎◌, rule_laws_tells, activated_says, says_laws_back_on, connected_says, created_says, cut_less, deactivated_says, emptied_says, evicted_says, evicting_says, eviction_failed_says, failed_says, gone_is, is_same, leaving_pages, left_count, left_flat, says_laws_left_nodes, none_rest, page_failed_says, page_left_says, pages_are_back, plain_says, quotas, read_says, refused_says, same_rest, says_by, says_is, segs_are_back, started_says, there_still, through_says, CanFillPage, CanFillSeg, bound_put, reads_put, clear_step, inside, step_laws_none_due, other_than, owner_step, HasTables, binding_is, descriptors_put, led_place, linked_within, not_null, tables_kept, take_one_seen, words_put, tell_kept_CanTell, IsNoOwner, clear_kept, faults_push, fill_page_kept, fill_seg_kept, tell_kept_leave_kept, tell_kept_load_kept, online_kept, owner_kept, quiet_push, tell_kept, told_keeps, none_some, not_there, page_used, fails_more, may_fail_is, no_page_left, started_spares, whole_idle, word_within, first_false, second_false}
unfoldable pub use Rattle.machine_model.proofs.Laws.{AllCome, IsDistinct, IsLawful, access_of, action_of, after, after_entry, all_rank, awaits_move, boot, command_rank, custody_next, dues, entries_on, has_free, is_filed, is_held_back, is_here, is_zero_page, job_rank, move_to, node_at, outline_of, outside_refusal, over, place_of, readers, references_after_reference, refusal_of, rehomed, reply_of, reply_to_reference, room_refusal, rule_of, store_after, taken_on, used_by}
pub use Rattle.machine_model.proofs.ActiveKept.{IsOver, activate_kept, connect_kept, created_kept, emptied_kept, looks_idle, segs_are_gone, segs_gone_rest, started_after, through_kept, through_seen}
pub use Rattle.machine_model.proofs.BackKept.{all_back, all_failed_kept, bound_within, evict_kept, eviction_failed_kept, eviction_kept, left_faults, left_keeps, page_kept, relink_there, signal_kept}
pub use Rattle.machine_model.proofs.CommitKept.{commit_kept, effected, end_kept, idle_over, ready_left, segs_over}
pub use Rattle.machine_model.proofs.InsideLaws.{due_is, inside_is, room_due, stays_free, stored_due, stored_free, zero_due, zero_free}
pub use Rattle.machine_model.proofs.JustLaws.{AllStay, LeavesTaken, NoneOut, brought_on, just_on, same_uid, started_free, taken_in, took_out, word_out}
pub use Rattle.machine_model.proofs.KeptLaws.{fits_alike, keeper_cpu, keeper_stage, step_keeps}
pub use Rattle.machine_model.proofs.MoverTied.{IsLook as mover_tied_IsLook, action_asks, here_moving, leaving_moving, look_is, tie_kept}
pub use Rattle.machine_model.proofs.OutlineOwner.{count_zero, step_outlined}
pub use Rattle.machine_model.proofs.OutlineTake.{HasTakenFrames, LooksLike, stands_on, takes_tree, took_like, took_owner, took_stands}
pub use Rattle.machine_model.proofs.ReleaseSeen.{bound_outlined, frame_outlined, leaves_may, named_here, not_here, set_either, stored_outlined}
pub use Rattle.machine_model.proofs.ScheduleLaws.{SameSeats, end_kept as schedule_laws_end_kept, in_range, leave_kept, load_kept, one_run, one_seat, range_has as schedule_laws_range_has, range_once, runs_kept, seats_kept}
pub use Rattle.machine_model.proofs.SpeakLaws.{Speaks, can_refuse, can_tell, comes_next, refusal_quiet, speaks, speaks_like, speaks_of, turn_is}
pub use Rattle.machine_model.proofs.TookKept.{ArePairs, CanTook, Owns, has_pair, is_pair, linked_before, noted, noted_has, pairs_left, took_keeps, took_kept}
pub use Rattle.machine_model.proofs.TransferKept.{active_at, failed_kept, kept_with, quiet_faults, reader_no_owner, started_kept, transferred_kept}
pub use Rattle.machine_model.proofs.VictimLaws.{chain_ends, chain_few, directory_is, has_victim, in_range_is, link_member, member_contains, member_link, some_there, victim_is_off}
