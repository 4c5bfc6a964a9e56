-- Laws that many files take of a whole step, and of what its owner has taken.
pub use Rattle.machine_model.proofs.Kept.{action_by, by_end, IsOver, segs_are_gone, segs_gone_rest, started_after, active_less, active_place, inactive_blank, bound_within, chain_active, first_there, superior_active, CanTakeAll, LeavesRest, going_word, one_read, told_transfer, LeadsToSegment, length_stands, truncate_stands, effected, here_more, here_now, here_same, lack_few, lack_le, readers_set, wanted_more, took_has, truncated_has, choice_bound, find_true, first_idle, free_frame, number_new, page_new, position_at, position_none, IsAlike, alike, alike_by, alike_on, all_still, fault_alike, is_still, one_still, refused_alike, due_is, inside_is, room_due, stays_free, Stays, job_stays_all_back, all_taken, emptying, emptying_victim, job_stays_evicted, evicting, is_back, is_emptied, page_left, AllStay, LeavesTaken, NoneOut, just_on, started_free, taken_in, word_out, fits_alike, step_keeps, told_process, told_reads, map_list, within_by, FindsActive, FindsAll, FindsCut, FindsFull, FindsLink, FindsMove, FindsNoFrame, FindsNoVictim, FindsOut, FindsPage, FindsPlace, FindsRoom, FindsTaken, FindsVictim, IsAbout, IsInside, IsRefused, LookFinds, look_finds, action_asks, here_moving, leaving_moving, look_is, tie_kept, owner_none, in_job, in_look, put_is, put_there, step_outlined, at_outline, is_owner, long_outline, seen_owns, seen_reading, seen_since, HasTakenFrames, LooksLike, stands_on, takes_tree, took_like, took_owner, IsIdle, cut_at_same, bound_here, idle_names, looking_idle, active_there, bound_word, null_word, stored_is, by_place, by_places, put_here, put_other, put_two_here, is_device, tree_plain, word_plain, pool_room_has_room, is_its, range_has, AccountMaps, Action, Active, Aim, AllRead, AreDistinct, AreEntitled, AreHeldSegs, AreIdle, AreNumbered, AreOf, AreThere, AsksMover, AwaitsClear, AwaitsTransfer, BeginsWithInitializer, Bool, Bound, CanActivate, CanEmpty, CanEvict, CanStart, Clears, Comes, Command, CommandDone, CommandStep, Commands, Core, Counts, CutDescriptor, Decides-ltb, DescriptorUse, Ended, Entry, Err, FailsBy, FailsIn, FitsPhase, FitsStage, FitsWork, ForClear, ForOwner, ForTransfer, ForeseenIsReading, Foresees, Frame, FrameUse, Free, Goes, GoesJust, HadRights, HasHadItsTurn, HasLeft, HasLoaded, HasLost, HasMoved, HasNoDescriptor, HasNoInferior, HasNoPage, HasStepped, HasTaken, HasTurn, HaveRights, HaveSteps, HeldPage, HeldSeg, HoldEntitled, IfSome, IsActive, IsAtWork, IsCut, IsEnded, IsEntitled, IsEntitledToAll, IsFaithful, IsFilled, IsFirstWithRoom, IsFitting, IsGoing, IsIn, IsInPool, IsKept, IsKnownAt, IsLeaf, IsLook, IsMachine, IsMember, IsMovedFor, IsNearer, IsOutOfUse, IsOwnedBy, IsPast, IsPlan, IsReadFor, IsReader, IsReading, IsReadyFor, IsReference, IsRemovable, IsReplied, IsRun, IsScheduled, IsShaped, IsSomeAnd, IsTakenBy, IsTakenFor, IsTakenFrom, IsTakenPast, IsTree, IsUnderWay, IsUnread, IsUp, IsWantedPage, IsWhole, IsWorking, JobDone, JobFell, Keeper, Keeps, KeepsAll, KeepsBook, KeepsLink, LacksRecord, Leaves, Left, Length, Links, List, Loads, Look, LosesNoPage, MayActivate, MayAnswer, MayAnswerBy, MayConnect, MayDeactivate, MayEmpty, MayEnter, MayFailBy, MayJoin, MayLose, MayMove, MayRehome, MayRelease, MayRun, Mode, Move, Moved, Mover, MovesFor, MovesForNext, MovesIn, Named, Node, None, OfNode, Ok, Option, Other, Outcome, Outline, Owner, OwnerStep, OwnsAll, OwnsFew, OwnsFor, OwnsFrom, Path, Phase, Plain, Plan, ProcessPlan, Processor, Progress, Ptw, Reads, Refer, Reference, Refers, Reply, Result, Rose, RoundDone, Row, Rule, Run, Runner, Says, Sdw, Seen, Segment, Some, SomeMoves, Stage, State, Step, Storage, Store, StoreKept, StoreSays, TakenIn, TakenWhole, TakesDescriptor, TakesPage, TakesSome, Transfer, Truncate, Truncates, Turn, UnstuckGoes, WaitsFor, Want, Wants, WantsPage, What, WhileIdle, Who, Works, [], above, account_of, after_reference, after_visit, aimed_at, alters, and-false, and_parts, any_page, ap, append-nil, append_assoc, are_zeros, arith, around, at_first, at_put, at_put_two, awaits_by, awaits_clear, awaits_in, awaits_transfer, bare, begun, binding_at, bindings, booted, bound_page, bound_use, branch_at, branch_found, by_descriptor, by_held, by_move, by_page, by_seg, by_word, calls_drive, cases_Bool, cases_eq, chain_of, clean_nil, clear_or, clears, come_to, comes, command_at, command_left, committed, committed_at, cond, cond_both, copy_failed, copy_or_commit, count_by, count_of, counts_taken, cpu_at, custody_after-nil, cut_all, cut_entry, cut_of_owner, cut_one, cut_page, cut_uid, deactivation_begun, descriptor_cut, descriptor_of, descriptor_use, descriptors_taken, effects_cut, emptied, ends, enters, entries_left, entry_at, entry_total, eqb, eqb-true, eqb_self, eqb_tells, erased, eviction_begun, eviction_done, false, fault_told, faults, fills, filter, fine_first, finish_of, finishing_is_bound, finishing_page_of, first_below, first_inactive, first_of, first_off_chain, first_past, first_run, first_taken, flags_taken, flat, flat_of, found_member, found_uid, frame_at, frame_entry, frame_in, frame_lost, frame_of, frame_reading, frame_use, frames_freed, frames_from, frames_of_owner, frames_taken, free_place, full_there, get_or, get_or-replicate, get_or-set_other, get_or-set_same, get_or_past, getter_of, giver_of, go_on_with, goes_in, going_for, gone, gone_entries, gone_seg, gone_segs, gones, hand_past, has, has_cut, has_directory, has_had_its_turn, has_head, has_process, has_record, has_room, has_room_flat, has_tail, has_taken, held_page, held_page_of, here_if, holding, home_in, home_of, idles, inactive_entries, inactive_if, inl, inr, is_active, is_at, is_connected, is_due, is_empty, is_end, is_fault, is_for, is_free, is_full, is_going_descriptor, is_going_frame, is_inferior, is_linked, is_lost, is_none, is_of, is_of_room, is_out, is_out_of_room, is_out_word, is_over, is_page_of, is_pending, is_positive, is_refusal, is_some, is_spent, is_stored, is_stored-without, is_there, is_used_up, is_volume_full, is_wanted_here, known_uid, kst_at, lack, lack_of, leads, leads_at, leads_to, least_free_frame, leaves, leaving_if, leb_tells, led_to, left_after, left_of, left_page, legal_nil, length, length-append, length-map, length-replicate, length-set, list_all, list_all-append, list_any, load_or_idle, loads, look_of, looking, loses, map, map_at, map_kept, measures_is_over, measures_parts_of, modified_of, move_begun, move_committed, move_of, moved, mover_of, mover_to, moves, moves_lacks_record, moving, names, nat_le, nat_lt, nat_tests, ne_eqb, new_word, next_command, next_out, no_call, no_processor, no_run, no_runner, no_segments, node_gone, node_in, node_superior, node_without, nonzero_alters, not, not-false, not-true, not_both, not_reading, note_of, off_chain, old_word, older, once_cleared, only, only_found, option_map, or_parts, or_zero, outline_frame_in, own_or_run, owner_signalled, owns, page_at, page_back, page_copied, page_done, page_fits, page_gone, page_in, page_is, page_made, page_of, page_referred, page_taken, pages_after, pages_back, pages_in, pages_of, pages_past, pair_of, parts_of, passed_there, past_page, permits, phase_signalled, places_in, pool_for, pool_of, pool_of_node, position, process_at, processor_at, progress_of, quota_in, range, range_with_len, read_at, read_use, reads, reads_of, ready_at_first, refer_or_take, reference_in, reference_of, referred, refl, replicate, replies, reply_to_command, rest_of, room_for, room_is, run_at, run_process, runner_at, runner_by, sdw_at, sdws_at, seen, seg_back, seg_gone, seg_of, segment_at, segment_taken, segs_back, segs_gone, set, shown, signalled, size, slice_get, slice_index_or, some_same, some_unwrapped, stage_of, started, started_page, stays, store_after-nil, store_after-push, store_frame, stores, stores_page, subst, suc, sum, sum_by-cons, superior_found, superior_in, superior_up, sym, table_of, tables_of, take, take_all, take_one, take_or_wait, told, took, trailer_gone, trailers_in, transfer_failed, transfer_or, transferred, true, turn_of, uid_at, uid_at_path, uid_in, uid_of, uid_of_command, uid_of_node, uid_of_number, uid_of_page, unlinked, unsigned_abs, use_of, victim_of, victim_taken, visited_if, volume_found, volume_in, volumes_of, waits, want_at, want_by, want_in, want_known, want_lack, want_lengthened, want_of, want_of_command, want_of_reference, want_truncated, wanted_chain, wanted_fits, what_taken, who_at, who_of, with_bound, with_choice, with_copy, with_cut, with_deleted, with_effect, with_faults, with_frame, with_hand_moved, with_here, with_inactive, with_left, with_links, with_made, with_move, with_moved, with_node, with_nodes, with_owner, with_pages, with_quota_of, with_runner, with_store, with_truncated, within_from, without_first_cut, without_first_frame, without_left, without_move, without_node, without_page, without_words, word_of, word_put, word_reply, words_in, words_zero, work_of, works, write_failed, zero, zero_words, ℕ, ℤ, ◌%◌, ◌&&◌, ◌*◌, ◌++◌, ◌+◌, ◌-◌, ◌/◌, ◌<◌, ◌==◌, ◌^◌, ◌||◌, ◌∙◌, ◌∷◌, ◌≡◌, ◌≢◌, ◌≤◌, ◌⊎◌, bound_outlined, frame_outlined, leaves_may, named_here, not_here, stored_outlined, rule_laws_tells, activated_says, connected_says, created_says, cut_less, deactivated_says, emptied_says, evicted_says, evicting_says, eviction_failed_says, failed_says, gone_is, is_same, leaving_pages, left_count, left_flat, says_laws_left_nodes, none_rest, page_failed_says, page_left_says, read_says, refused_says, same_rest, says_by, says_is, started_says, there_still, in_range, schedule_laws_range_has, range_once, CanFillPage, Speaks, can_refuse, can_tell, comes_next, refusal_quiet, speaks, speaks_like, speaks_of, turn_is, clear_step, inside, step_laws_none_due, other_than, owner_step, binding_is, descriptors_put, led_place, linked_within, words_put, IsNoOwner, none_some, page_used, ArePairs, CanTook, has_pair, is_pair, pairs_left, active_at, kept_with, reader_no_owner, directory_is, has_victim, in_range_is, link_member, member_contains, member_link, some_there, victim_is_off, fails_more, no_page_left, started_spares, whole_idle, word_within, or_true, first_false, second_false}
unfoldable pub use Rattle.machine_model.proofs.Kept.{AllCome, IsLawful, access_of, action_of, after, after_entry, all_rank, awaits_move, boot, command_rank, dues, entries_on, has_free, is_filed, is_held_back, is_here, is_zero_page, job_rank, move_to, node_at, outline_of, outside_refusal, over, place_of, readers, refusal_of, reply_of, room_refusal, rule_of, store_after, taken_on, used_by}
pub use Rattle.machine_model.proofs.ComingKept.{SameRuns, all_come, come_same, runs_stay, tells}
pub use Rattle.machine_model.proofs.CommitAsks.{IsOut, Rests, RestsCommit, commit_asks, cuts_still, look_rests, taken_rests}
pub use Rattle.machine_model.proofs.DeleteKept.{all_gone, bound_unread, chain_leaves, freed, freed_bound, freed_reads, gone_entry, gone_pass, gones_bound, gones_entries, node, segs_bound, segs_entries, taken_bound, taken_word}
pub use Rattle.machine_model.proofs.EntitledKept.{MayEntitle, entitled_kept, set_entitled}
pub use Rattle.machine_model.proofs.JustTaken.{look_taken}
pub use Rattle.machine_model.proofs.LeafLaws.{leaf_inferiors, victim_leaf}
pub use Rattle.machine_model.proofs.ListSizes.{command_few, frames_from_few, pool_small, trailers_few}
pub use Rattle.machine_model.proofs.MoveAsks.{bound_stored, cut_active, held_active, known, length_asks, no_access_asks, through_asks, who_is, zero_asks}
pub use Rattle.machine_model.proofs.OutlineSeen.{kept_seen, no_owner, none_due as outline_seen_none_due, reading_is, running_is, sizes_seen}
pub use Rattle.machine_model.proofs.PathsKept.{KeepsName, PathsStay, node_mapped, paths_changed, paths_less, paths_more, paths_same}
pub use Rattle.machine_model.proofs.RuleKept.{Asks, AsksCommit, AsksCreate, AsksEmpty, AsksSegment, AsksTake, AsksVictim, HasWaited, IsLooking, IsMoving, finish_can, look_can, look_idle, look_still, move_can, nothing_over, process_here}
pub use Rattle.machine_model.proofs.ScheduleKept.{IsAnswering, MaySchedule, schedule_kept, told_seats}
pub use Rattle.machine_model.proofs.StepKept.{CanActivateAt, CanConnectTo, CanDo, CanFailWrite, CanLeave, CanReply, IsMine, after_keeps, due_other, empties_goes, empty_other, hand_kept, online_other, to_hold}
pub use Rattle.machine_model.proofs.TakeLists.{listed_bound, pages_bound, pages_taken, segment_takes, trailers_taken}
pub use Rattle.machine_model.proofs.TakeWhole.{begun_whole, nothing_whole, take_linked}
pub use Rattle.machine_model.proofs.WorkKept.{AllSpare, IsLess, LeavesMove, about_fails, fails_in_less, fails_less, frame_less, length_fails, moved_on, moves_in_on, page_fails, past_moved, referred_less, same_less, unread_less, whole_on}
