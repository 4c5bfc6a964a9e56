-- Laws that many files take: of lists, words, chains and looks, and of what each action changes.
pub use Rattle.machine_model.proofs.Basics.{action_by, by_end, over_ended, over_idle, runs_failed, book_apart, book_next, count_cons, here_more, here_now, here_same, lack_few, lack_le, readers_set, wanted_more, IsAlike, alike, alike_by, alike_on, alike_shown, all_still, done_alike, fault_alike, is_still, one_still, refused_alike, map_length, map_list, put_list, within_by, answer_outlined, clear_outlined, commit_outlined, create_outlined, failed_outlined, online_outlined, owner_none, running_at, activate_outlined, connect_outlined, deactivate_at_once_outlined, deactivate_outlined, eviction_outlined, give_up_outlined, in_job, in_look, in_stage, job_to, page_outlined, start_outlined, at_outline, is_owner, long_outline, outline_reads_map_at, seen_due, seen_online, seen_owns, seen_reading, seen_running, seen_since, seen_tried, IsIdle, cut_at_same, cut_at_tells, like_frame, owned_laws_nobody, owned_like, right_frame, right_like, by_place, by_places, one_place, put_here, put_other, put_two_here, put_two_map, AccountMaps, Action, Active, ActiveSegs, Aim, AllByRecursion, AllRead, AreAlike, AreApart, AreDirectories, AreDistinct, AreEntitled, AreHeldPages, AreHeldSegs, AreIdle, AreNumbered, AreOf, ArePools, AreScheduled, AreThere, AreTied, AreUnderWay, Around, AsksMover, AtWork, AwaitsClear, AwaitsTransfer, BeginsWithInitializer, Bool, Bound, CanActivate, CanEmpty, CanEvict, CanStart, Clears, Comes, Command, CommandDone, CommandStep, Commands, Contains, Copying, Core, Counts, Cpu, Custody, CutDescriptor, Decides-ltb, DescriptorUse, Ended, EndsChain, Entry, Err, EvictFrame, FailsBy, FailsIn, Fine, FinishingMayRelease, FitsPhase, FitsStage, FitsWork, ForClear, ForOwner, ForTransfer, ForeseenIsReading, Foresees, Frame, FrameUse, Free, Goes, GoesJust, HadRights, HasHadItsTurn, HasJob, HasLeft, HasLoaded, HasLost, HasMoved, HasNoDescriptor, HasNoInferior, HasNoPage, HasOneOffChain, HasSizes, HasStepped, HasTaken, HasTurn, HaveRights, HaveSteps, HeldPage, HeldSeg, HoldEntitled, HoldsRight, Home, IfSome, IsActive, IsAimed, IsAlone, IsAtWork, IsChain, IsConserved, IsCut, IsEnded, IsEntitled, IsEntitledToAll, IsFaithful, IsFilled, IsFirstWithRoom, IsFitting, IsFront, IsGoing, IsIn, IsInNoFrame, IsInPool, IsKept, IsKnownAt, IsLeaf, IsLeaving, IsLook, IsMachine, IsMember, IsMovedFor, IsNearer, IsOneToOne, IsOutOfUse, IsOwned, IsOwnedBy, IsPageAt, IsPast, IsPlan, IsReadFor, IsReader, IsReading, IsReadyFor, IsReference, IsRelinkable, IsRemovable, IsReplied, IsRun, IsScheduled, IsShaped, IsSomeAnd, IsTakenBy, IsTakenFor, IsTakenFrom, IsTakenPast, IsTied, IsTree, IsUnderWay, IsUnread, IsUp, IsWantedPage, IsWhole, IsWorking, JobDone, JobFell, JobStep, Keeper, Keeps, KeepsAll, KeepsBook, KeepsLink, LacksRecord, Leaves, Left, Length, Links, List, Loads, Look, LosesNoPage, MayActivate, MayAnswer, MayAnswerBy, MayChange, MayComeBack, MayConnect, MayDeactivate, MayDo, MayEmpty, MayEnter, MayFailBy, MayFault, MayJoin, MayLeave, MayLose, MayMove, MayRehome, MayRelease, MayRelink, MayRun, MayTakeEffect, Mode, Move, Moved, Mover, MovesFor, MovesForNext, MovesIn, Named, NamesAllGoing, NobodyHoldsPage, Node, None, NoneDue, OfNode, Ok, Option, Other, Outcome, Outline, Owner, OwnerStep, OwnsAll, OwnsFew, OwnsFor, OwnsFrom, Path, Phase, Plain, Plan, ProcessPlan, Processor, Progress, Ptw, Reads, RefKind, Refer, Reference, Refers, Reply, Result, Rose, RoundDone, Row, Rule, Run, Runner, Says, Sdw, Seen, Segment, Some, SomeMoves, Spares, Stage, State, Step, Storage, Store, StoreKept, StoreSays, Tables, Taken, TakenIn, TakenTo, TakenWhole, TakesDescriptor, TakesPage, TakesSome, Transfer, Truncate, Truncates, Turn, UnstuckGoes, VtocEntry, Waiting, WaitsFor, Want, Wants, WantsPage, WasBrought, What, WhileIdle, Who, Works, [], above, above_once, account_of, activated_at, after_fault, after_reference, after_visit, aimed_at, alters, and-false, and_parts, any_page, any_turned, ap, append-nil, append_assoc, are_zeros, arith, around, at_first, at_put, at_put_two, at_stage, awaits_by, awaits_clear, awaits_in, awaits_transfer, back, back_seg, bare, begun, binding_at, bindings, bindings_modified, booked, booted, bound_page, bound_use, branch_at, branch_found, brought, by_descriptor, by_held, by_move, by_outcome, by_page, by_seg, by_word, calls_drive, cases_Bool, cases_eq, cases_lt, chain_of, changes_emptied, clean_nil, clear_or, clears, clock_choice, come_to, comes, command_at, command_left, commits_lost, committed, committed_at, cond, cond_both, connected, connected_of, connected_to, copy_failed, copy_or_commit, core_frame, core_map_with_frame, count_by, count_by-le-length, count_of, counted, counts_taken, cpu_at, custody_after-nil, custody_after-push, custody_bound_page, custody_is_started, cut_all, cut_entry, cut_of_owner, cut_one, cut_page, cut_uid, cut_use, deactivated_one, deactivation_begun, depth, descriptor_cut, descriptor_of, descriptor_use, descriptors_taken, drop, dropped, effect_of, effect_total, effects_cut, emptied, ends, enters, entries_left, entry_at, entry_total, eqb, eqb-true, eqb_self, eqb_tells, erased, eviction_begun, eviction_done, fails_before_first, false, false_from_ne_true, fault_told, faults, few_kept, filled, fills, filter, find, fine_first, finish_of, finishing_is_bound, finishing_page_of, first_below, first_inactive, first_of, first_off_chain, first_past, first_run, first_taken, flags_in, flags_taken, flat, flat_of, found_member, found_uid, frame_at, frame_entry, frame_in, frame_lost, frame_of, frame_read_from, frame_reading, frame_use, framed, frames_freed, frames_from, frames_in, frames_of_owner, frames_taken, free_place, full_then, full_there, get_or, get_or-replicate, get_or-set_other, get_or-set_same, get_or_past, getter_of, giver_of, go_on_with, goes_in, goes_on, going_for, going_within, gone, gone_entries, gone_seg, gone_segs, gones, hand_of, hand_past, has, has_chains, has_cut, has_directory, has_had_its_turn, has_head, has_process, has_record, has_room, has_room_flat, has_tail, has_taken, have_ended, held_by, held_in, held_of, held_page, held_page_of, held_parts, held_seg, here, here_if, here_in, holding, home_in, home_of, idles, if◌then◌else◌, inactive_entries, inactive_if, inl, inr, is_active, is_at, is_bound, is_connected, is_current_frame, is_cut_at, is_due, is_empty, is_end, is_fault, is_for, is_free, is_full, is_going_descriptor, is_going_frame, is_held_in, is_inferior, is_inferior_in, is_inferior_of, is_its_end, is_linked, is_lost, is_none, is_number, is_of, is_of_room, is_out, is_out_of_room, is_out_word, is_outside, is_over, is_page, is_page_of, is_pending, is_pending_in, is_positive, is_refusal, is_some, is_spent, is_stored, is_stored-without, is_stored_from, is_there, is_trailer, is_uid, is_used_up, is_volume_full, is_wanted_here, is_word_or_done, jobs_page_or_zero, jobs_told_at, keeper_of, known_uid, kst_at, lack, lack_of, lacks_record, le_refl, leads, leads_at, leads_to, leaf_of, least_free_frame, least_inferior, leaves, leaving_if, leb_tells, led_to, left, left_after, left_at, left_in, left_of, left_page, legal_nil, length, length-append, length-le_from_distinct_below, length-map, length-range_with_len, length-replicate, length-reverse, length-set, linked, list_all, list_all-append, list_any, list_any-append, load_or_idle, loads, look_of, looking, loses, lost, map, map_at, map_kept, may_fail, measures_is_over, measures_parts_of, member_found, member_left, member_parts, member_right, min, modified_of, move_begun, move_committed, move_of, moved, mover_in, mover_of, mover_to, moves, moves_lacks_record, moving, names, names_frame, names_seg, nat_le, nat_lt, nat_tests, ne_eqb, new_word, next_command, next_out, next_with_frame, no_call, no_more_active, no_processor, no_run, no_runner, no_segments, nobody, nobody_holds_page, node_gone, node_in, node_superior, node_without, none_has, nonzero_alters, not, not-false, not-true, not_both, not_reading, not_true, note_of, nothing_held, off_chain, old_word, older, once_cleared, only, only_found, option_map, or_cases, or_left, or_parts, or_true, or_zero, outline_frame_in, own_or_run, owner_signalled, owns, page_at, page_back, page_brought, page_copied, page_created, page_done, page_fits, page_gone, page_in, page_is, page_made, page_of, page_or_zero, page_referred, page_started, page_taken, pages_after, pages_back, pages_in, pages_of, pages_past, pair_of, parts_of, passed_there, past_page, permits, phase_signalled, places_from, places_in, pool_for, pool_of, pool_of_node, pools_few, position, position-Some, position_or_len, process_at, processor_at, progress_of, ptw_at, queued, queued_by, quota_in, range, range_with_len, read_at, read_use, reads, reads_modified, reads_of, ready_at_first, record_at, record_of, records_in, refer_or_take, reference_in, reference_of, references_reply_of, referred, refl, refusal, rehomed_word, released, released_by, replicate, replies, reply_at, reply_to_command, reply_to_tree_command, rest_of, reverse, room_for, room_is, room_reply, round_pool, run_after, run_at, run_process, runner_at, runner_by, runner_of, same_Some, says, says_in, sdw_at, sdws_at, seat_of, seen, seg_back, seg_gone, seg_of, segment_at, segment_taken, segs_back, segs_gone, set, shown, shown_answered, signalled, signals, size, size_of, slice_get, slice_index_or, some_same, some_unwrapped, stage_of, started, started_page, stays, stead_of, step_up, store_after-nil, store_after-push, store_frame, stored_from, stored_then, stores, stores_page, subst, suc, sum, sum_by-cons, superior_found, superior_in, superior_up, sym, table_of, tabled, tables_of, take, take_all, take_one, take_or_wait, taken, takes, takes_effect, takes_for_commit, takes_frame, takes_segment, tied_uid_at, times, times_few, times_one, told, told_at, told_by, told_from, took, trailer_gone, trailers_in, trailers_of, transfer_failed, transfer_or, transferred, tree_free, tree_laws_superior_in, true, turn_of, uid_at, uid_at_path, uid_in, uid_of, uid_of_command, uid_of_node, uid_of_number, uid_of_page, unlinked, unsigned_abs, use_of, victim_of, victim_taken, visited_if, volume_found, volume_in, volumes_in, volumes_of, vtoc_entry_at, vtoc_in, waits, waits_for, want_at, want_by, want_in, want_known, want_lack, want_lengthened, want_of, want_of_command, want_of_reference, want_truncated, wanted_chain, wanted_fits, went_through, what_taken, who_at, who_of, with_all_here, with_bound, with_choice, with_command, with_copy, with_created, with_cut, with_deleted, with_effect, with_faults, with_frame, with_hand_moved, with_here, with_inactive, with_leaving, with_left, with_links, with_made, with_move, with_moved, with_node, with_nodes, with_owner, with_pages, with_quota_of, with_record, with_relink, with_runner, with_runners, with_store, with_transfer, with_truncated, within_from, without_first_cut, without_first_frame, without_left, without_move, without_node, without_page, without_words, word_of, word_of_left, word_put, word_reply, worded, words_few, words_in, words_zero, work_of, works, write_failed, written, zero, zero-add, zero_words, ℕ, ℤ, ◌%◌, ◌&&◌, ◌*◌, ◌++◌, ◌+◌, ◌-◌, ◌/◌, ◌<◌, ◌==◌, ◌^◌, ◌||◌, ◌∙◌, ◌∷◌, ◌≡◌, ◌≢◌, ◌≤◌, ◌⊎◌, rule_laws_tells, bound_put, reads_put, reseated_seen, clear_step, inside, step_laws_none_due, other_than, owner_step, none_some, not_there, other_use_here, out_none, page_used, tied_here, tied_lost, tied_start, found, word_laws_word_put, word_within, first_false, second_false}
unfoldable pub use Rattle.machine_model.proofs.Basics.{AllCome, IsDistinct, IsLawful, access_of, acl_reply, action_of, after, after_entry, all_rank, awaits_move, boot, command_rank, custody_after, custody_next, delete_reply, dues, entries_on, has_free, is_filed, is_filed_at, is_held_back, is_here, is_zero_page, job_rank, leaf_below, length_reply, move_to, node_at, outline_of, outside_refusal, over, place_of, readers, references_after_reference, refusal_of, rehomed, reply_of, reply_to_reference, room_refusal, rule_of, store_after, taken_on, terminate_reply, truncate_reply, used_by}
pub use Rattle.machine_model.proofs.ActiveLaws.{activate_keeps, deactivate_keeps}
pub use Rattle.machine_model.proofs.ActiveSeen.{activate_seen, active_less, active_place, any_at, blank_less, deactivate_seen, inactive_blank, names_table, none_length, some_within, within_some, words_less, words_more, words_new}
pub use Rattle.machine_model.proofs.AnswerLaws.{fault_keeps, owner_keeps}
pub use Rattle.machine_model.proofs.ChainFacts.{chain_active, first_there, superior_active, turned}
pub use Rattle.machine_model.proofs.ChainLaws.{CanTakeAll, GoesOn, HasGone, HasTaken as chain_laws_HasTaken, IsDone, IsSteady, LeavesRest, back_on, bound_shown, first_finish, first_finish_seg, goes_with, going_word, gone_done, gone_segs_keep, gones_keep, idle_done, names_linked, names_uid, takes_keep, uncut_on}
pub use Rattle.machine_model.proofs.ChoiceLaws.{choice_bare, choice_bindings, choice_reads, one_read}
pub use Rattle.machine_model.proofs.ClearLaws.{signal_keeps, told_transfer}
pub use Rattle.machine_model.proofs.CommandFacts.{LeadsToSegment, delete_stands, length_stands, truncate_stands}
pub use Rattle.machine_model.proofs.DescriptorLaws.{CanConnect, back_seg_keeps, connect_keeps, cut_keeps, gone_seg_keeps}
pub use Rattle.machine_model.proofs.DueLaws.{HasSaid, none_due}
pub use Rattle.machine_model.proofs.EffectLaws.{effect_has, effect_rests, frame_entry_has, took_has, truncated_has}
pub use Rattle.machine_model.proofs.FindLaws.{choice_bound, find_true, first_idle, free_frame, number_new, page_new, position_at, position_none, unread_page}
pub use Rattle.machine_model.proofs.FrameLaws.{CanFinish, back_keeps, finish_with, gone_keeps, in_no_frame, release_keeps, take_keeps}
pub use Rattle.machine_model.proofs.JobStays.{Stays, all_back as job_stays_all_back, all_taken, emptying, emptying_victim, evicted as job_stays_evicted, evicting, is_back, is_emptied, page_left}
pub use Rattle.machine_model.proofs.LeaveSeen.{back_seen, gone_seen, signal_seen, told_has, told_online, told_process, told_reads, unread_put}
pub use Rattle.machine_model.proofs.LookFacts.{FindsActive, FindsAll, FindsCut, FindsFull, FindsLink, FindsMove, FindsNoFrame, FindsNoVictim, FindsOut, FindsPage, FindsPlace, FindsRoom, FindsTaken, FindsVictim, IsAbout, IsBrought, IsInside, IsRefused, LookFinds, look_finds}
pub use Rattle.machine_model.proofs.OutlineMove.{begin_outlined, copy_failed_outlined, copy_outlined, move_outlined, put_is, put_there}
pub use Rattle.machine_model.proofs.OwnerLaws.{bound_here, idle_names, job_over, looking_idle, moves_idle}
pub use Rattle.machine_model.proofs.PageShown.{active_there, bound_word, null_word, stored_is}
pub use Rattle.machine_model.proofs.PlainReplies.{command_plain, is_device, move_plainly, tells_device, tree_plain, word_plain}
pub use Rattle.machine_model.proofs.PoolRoom.{has_room as pool_room_has_room, is_its, range_has}
pub use Rattle.machine_model.proofs.SaysLaws.{activated_says, back_on as says_laws_back_on, connected_says, created_says, cut_less, deactivated_says, emptied_says, evicted_says, evicting_says, eviction_failed_says, failed_says, gone_is, is_same, leaving_pages, left_count, left_flat, left_nodes as says_laws_left_nodes, none_rest, page_failed_says, page_left_says, pages_are_back, plain_says, quotas, read_says, refused_says, same_rest, says_by, says_is, segs_are_back, started_says, there_still, through_says}
pub use Rattle.machine_model.proofs.SeatLaws.{CanFillPage, CanFillSeg, leave_keeps}
pub use Rattle.machine_model.proofs.TakeSeen.{HasTables, binding_is, cut_one_seen, descriptors_put, led_place, linked_within, not_null, tables_kept, take_all_seen, take_one_seen, words_put}
pub use Rattle.machine_model.proofs.TellKept.{CanTell as tell_kept_CanTell, IsNoOwner, clear_kept, faults_push, fill_page_kept, fill_seg_kept, flat_still, leave_kept as tell_kept_leave_kept, load_kept as tell_kept_load_kept, online_kept, owner_kept, quiet_push, tell_kept, told_keeps, works_counted}
pub use Rattle.machine_model.proofs.WholeLaws.{fails_more, may_fail_is, no_page_left, started_spares, whole_idle, whole_next}
