-- The names that the proofs of this crate take from elsewhere.
pub use Rattle.std.proofs.Common.{Bool, List, None, Option, Some, [], ap, append-nil, arith, cond, drop, eqb, false, get_or, inl, inr, is_some, le_refl, length, ltb, map, min, not, position, refl, replicate, rules, set, subst, suc, sum, sym, take, true, zero, ℕ, ◌&&◌, ◌*◌, ◌++◌, ◌+◌, ◌-◌, ◌<◌, ◌^◌, ◌||◌, ◌∙◌, ◌∷◌, ◌≡◌, ◌≢◌, ◌≤◌, ◌⊎◌}
pub use Rattle.std.proofs.Math.Seq.{map-set_same}
pub use Rattle.std.proofs.lemmas.Bool.{and_parts, cases_lt, cond_both, eqb-true, or_parts}
pub use Rattle.std.proofs.lemmas.Bool.Decides.{eqb_tells, leb_tells, nat_tests}
pub use Rattle.std.proofs.lemmas.Grind.{common_steps, get_or_default_zero}
pub use Rattle.std.proofs.lemmas.List.{get_or-set_other, get_or-set_same, get_or_past, length-append, length-map, length-replicate, length-set, take-append-drop, take_more}
pub use Rattle.std.proofs.lemmas.List.Elements.{All-get_or, All-map, All-nil}
pub use Rattle.std.proofs.lemmas.List.Folds.{list_any_at}
pub use Rattle.std.proofs.lemmas.List.Sums.{count_by-le-length, sum_by-cons}
pub use Rattle.std.proofs.lemmas.Map.Steps.{length-le_from_distinct_below}
pub use Rattle.std.proofs.lemmas.Option.{slice_get_past}
pub use Rattle.std.proofs.lemmas.Result.{on_err_weaker, on_ok_weaker}
pub use Rattle.std.specs.List.{find, list_all, list_any}
pub use Rattle.std.specs.Option.{option_map}
pub use Rattle.std.specs.Prelude.{All, Contains, Err, IfOk, IfSome, IsOk, IsSome, Ok, OnErr, OnOk, Result, count_by, nat_le, nat_lt, slice_get, sum_by, ◌%◌, ◌/◌, ◌↔◌}
pub use Rattle.laws.proofs.Bools.{not_both}
pub use Rattle.laws.proofs.Lists.{all_same, sum_of_map}
pub use Rattle.laws.proofs.Numbers.{and_both, eqb_self}
pub use Rattle.laws.proofs.Options.{some_same}
pub use Rattle.laws.proofs.Places.{seen_same}
pub use Rattle.mword.specs.Words.{AreZero}
pub use Rattle.mnames.specs.declared.principals.Who.{Who}
pub use Rattle.site_io.specs.Faults.{Rose}
pub use Rattle.script.specs.Forms.{ArePools}
unfoldable pub use Rattle.script.specs.Forms.{is_command}
pub use Rattle.script.specs.Plans.{Plan}
pub use Rattle.script.specs.References.{alters, new_word, permits, reference_of}
pub use Rattle.script.specs.declared.commands.Command.{Command}
pub use Rattle.script.specs.declared.commands.Reference.{Reference}
pub use Rattle.script.specs.declared.plan.VolumeLine.{VolumeLine}
pub use Rattle.assoc_mem.specs.Held.{frame_of, is_number, is_page, page_of, seg_of}
pub use Rattle.assoc_mem.specs.declared.HeldPage.{HeldPage}
pub use Rattle.assoc_mem.specs.declared.HeldSeg.{HeldSeg}
pub use Rattle.assoc_mem.specs.declared.What.{What}
pub use Rattle.book.specs.declared.entries.Entry.{Entry}
pub use Rattle.book.specs.declared.replies.Reply.{Reply}
pub use Rattle.tree_model.specs.Access.{Row}
pub use Rattle.tree_model.specs.Tree.{Node, node_in, pool_of, volume_in}
unfoldable pub use Rattle.tree_model.specs.Tree.{entries_on, taken_on}
pub use Rattle.tree_model.specs.Trees.{has_segment}
pub use Rattle.known_segs.specs.Known.{uid_of}
pub use Rattle.dir_tree.specs.Nodes.{chain_of}
pub use Rattle.accounts.specs.Maps.{AccountMaps, Counts, count_of}
pub use Rattle.flat_model.proofs.PlaceLaws.{place_fits, place_within}
pub use Rattle.flat_model.proofs.ScriptLaws.{command_planned}
pub use Rattle.flat_model.proofs.SharedLaws.{nonzero_alters}
pub use Rattle.flat_model.proofs.ZeroLaws.{zero_words}
pub use Rattle.flat_model.specs.Commands.{is_end}
unfoldable pub use Rattle.flat_model.specs.Legal.{after_entry}
pub use Rattle.flat_model.specs.Pages.{is_stored}
unfoldable pub use Rattle.flat_model.specs.Pages.{is_zero_page}
pub use Rattle.flat_model.specs.References.{is_out_of_room, is_used_up, room_reply, stores_page, word_reply}
pub use Rattle.flat_model.specs.Store.{Store, entries_in, known_uid, records_in, records_of}
unfoldable pub use Rattle.flat_model.specs.Store.{boot}
pub use Rattle.custody_model.proofs.SharedLaws.{any_turned, has_head, range_length}
pub use Rattle.custody_model.proofs.TurnLaws.{count_next}
pub use Rattle.custody_model.specs.Allowed.{superior_in}
unfoldable pub use Rattle.custody_model.specs.Clean.{custody_after, custody_from}
pub use Rattle.custody_model.specs.Custody.{Custody, Seat, bound_page as page_held, has, is_going_descriptor, leads_to, nothing_held, range, uid_of_page, page_of as Custody_page_of}
pub use Rattle.custody_model.specs.Next.{at_put, released_by, told as Next_told}
unfoldable pub use Rattle.custody_model.specs.Next.{custody_next}
pub use Rattle.page_table.specs.declared.Ptw.{Ptw}
pub use Rattle.record_map.specs.Bitmap.{in_use}
pub use Rattle.vtoc.specs.Vtoc.{record_at, Entry as Vtoc_Entry, entry_at as Vtoc_entry_at}
pub use Rattle.core_map.specs.Clock.{after_choice, clock_choice}
pub use Rattle.core_map.specs.CoreMap.{Core, bound_page, frame_at, is_bound, is_free, is_modified, started_page, with_frame}
pub use Rattle.core_map.specs.declared.Frame.{Frame}
pub use Rattle.volumes.specs.FailLine.{IsOneMore}
pub use Rattle.volumes.specs.FullPages.{HaveFullPages}
pub use Rattle.volumes.specs.Volumes.{HasParts, Vols, faults_at, made_of}
pub use Rattle.volumes.specs.declared.Part.{Part}
pub use Rattle.seg_mover.specs.Copies.{CallsDrives}
pub use Rattle.seg_mover.specs.declared.Mover.{Mover}
pub use Rattle.active_segs.specs.Active.{ActiveSegs, HasNoInferior, IsActive, IsAway, entry_at, superior_in as superior_of, table_at, uid_at, uid_in}
pub use Rattle.active_segs.specs.Victim.{HasOneOffChain, first_off_chain, hand_past}
pub use Rattle.descriptor_seg.specs.declared.Sdw.{Sdw}
pub use Rattle.trailers.specs.Trailer.{trailers_of}
pub use Rattle.page_control.proofs.Facts.{bound_from_page}
pub use Rattle.page_control.proofs.Pictures.{picture_by, shown_in, shown_out}
pub use Rattle.page_control.proofs.Touching.{Touches, page_none, page_some, words_kept, moves as Touching_moves}
pub use Rattle.page_control.specs.Counts.{entries, size, taken, used}
pub use Rattle.page_control.specs.Drives.{CallsDrive}
pub use Rattle.page_control.specs.Effects.{cut, erased, evicted, framed, referred, word_put}
pub use Rattle.page_control.specs.Picture.{KeepsWords, is_binding, is_stored as is_stored_at, words_at, words_filed, words_held}
unfoldable pub use Rattle.page_control.specs.Picture.{is_filed_at, words_of_page}
pub use Rattle.page_control.specs.Plain.{Paging, Plain, binding_at, bindings, frame_in, record_of, words_in}
pub use Rattle.page_control.specs.Tied.{IsInFrame, IsNotStarted, flags_in, has_record, is_out, vtoc_in, uid_at as Tied_uid_at}
pub use Rattle.page_control.specs.Ties.{IsTied}
pub use Rattle.page_control.specs.declared.Home.{Home}
pub use Rattle.page_control.specs.declared.Left.{Left}
pub use Rattle.seg_control.specs.Control.{Control, Links, is_for, kst_at, leads, leads_at, sdws_at, table_of, word_of}
unfoldable pub use Rattle.seg_control.specs.Control.{place_of}
pub use Rattle.seg_control.specs.Effects.{unlinked}
pub use Rattle.seg_control.specs.Kept.{IsHomeOf, IsKept, IsKnownAt, IsOutAt}
pub use Rattle.seg_control.specs.Moving.{IsUnread, in_move, next_out, volumes_of}
pub use Rattle.storage_ops.proofs.PageFacts.{directory_found, room_of}
pub use Rattle.storage_ops.proofs.Refusals.{long_segment}
pub use Rattle.storage_ops.specs.Rooms.{is_roomy}
pub use Rattle.storage_ops.specs.Shown.{AreFresh, IsStore, ShowsTree, home_of, is_there, pages_of}
unfoldable pub use Rattle.storage_ops.specs.Shown.{is_filed, picture}
pub use Rattle.processor.specs.Moves.{IsLongEnough, by_descriptor, by_held, by_page, by_seg, by_word}
pub use Rattle.processor.specs.declared.Transfer.{Transfer}
pub use Rattle.machine_model.proofs.ActionCases.{action_by}
pub use Rattle.machine_model.proofs.ActiveKept.{segs_gone_rest}
pub use Rattle.machine_model.proofs.ActiveSeen.{active_place, any_at, within_some}
pub use Rattle.machine_model.proofs.AllEnded.{flat_ended, over_complete}
pub use Rattle.machine_model.proofs.BookAfter.{entries_after}
pub use Rattle.machine_model.proofs.ChainFacts.{chain_active, first_there}
pub use Rattle.machine_model.proofs.ChoiceLaws.{choice_bindings}
pub use Rattle.machine_model.proofs.CommandFacts.{LeadsToSegment, length_stands}
pub use Rattle.machine_model.proofs.CommitReady.{IsCommitting, committing}
pub use Rattle.machine_model.proofs.CommitRests.{none_listed}
pub use Rattle.machine_model.proofs.EmptyAsks.{segment_inferiors, unread_any}
pub use Rattle.machine_model.proofs.FaultsBooked.{HasTold, count_on, faults_after}
pub use Rattle.machine_model.proofs.FindLaws.{choice_bound, free_frame, free_is, position_at, position_none, unread_page}
pub use Rattle.machine_model.proofs.FlatAlike.{append_assoc}
pub use Rattle.machine_model.proofs.IdleKept.{FillsBusy, idle_kept}
pub use Rattle.machine_model.proofs.InsideLaws.{due_is, inside_is}
pub use Rattle.machine_model.proofs.LeafLaws.{leaf_inferiors, victim_leaf}
pub use Rattle.machine_model.proofs.ListLaws.{map_list, within_by}
pub use Rattle.machine_model.proofs.ListSizes.{command_few, connected_few, descriptors_few, frames_from_few, no_table, pages_few, trailers_few}
pub use Rattle.machine_model.proofs.LookAsks.{about_there}
pub use Rattle.machine_model.proofs.LookFacts.{IsAbout, IsInside, LookFinds, look_finds}
pub use Rattle.machine_model.proofs.LoopLaws.{round_done, way_falls, way_next}
pub use Rattle.machine_model.proofs.MachineKept.{step_keeps_all}
pub use Rattle.machine_model.proofs.MachineRounds.{command_freed, job_end, job_freed, job_start, kept_of, reader_seen}
pub use Rattle.machine_model.proofs.MoveAsks.{descriptor_active, entitled_all, leads_all, seg_found}
pub use Rattle.machine_model.proofs.MoverTied.{moving_fits}
pub use Rattle.machine_model.proofs.OutlineJob.{in_job}
pub use Rattle.machine_model.proofs.OutlineMove.{first_past}
pub use Rattle.machine_model.proofs.OutlineReads.{at_outline, long_outline, seen_reading}
pub use Rattle.machine_model.proofs.OutlineSeen.{distinct_of, no_owner}
pub use Rattle.machine_model.proofs.OverLaws.{over_free}
pub use Rattle.machine_model.proofs.OwnedLaws.{IsIdle}
pub use Rattle.machine_model.proofs.OwnerLaws.{bound_here}
pub use Rattle.machine_model.proofs.PageShown.{active_there, bound_tells, frame_words, null_word, stored_is}
pub use Rattle.machine_model.proofs.Places.{by_place}
pub use Rattle.machine_model.proofs.PoolsKept.{pools_kept}
pub use Rattle.machine_model.proofs.Returnable.{descriptors_return, pages_return}
pub use Rattle.machine_model.proofs.RuleKept.{Asks, HasWaited, IsLooking, look_idle, process_here}
pub use Rattle.machine_model.proofs.RulesKept.{action_can}
pub use Rattle.machine_model.proofs.SharedLaws.{zeros_to}
pub use Rattle.machine_model.proofs.SpeakLaws.{Speaks, speaks}
pub use Rattle.machine_model.proofs.StepAsks.{reads_for}
pub use Rattle.machine_model.proofs.StepKept.{CanDo, CanFill, IsMine, to_hold}
pub use Rattle.machine_model.proofs.StepKnows.{CopiesNext, Knows, step_knows}
pub use Rattle.machine_model.proofs.TakeLists.{trailers_taken}
pub use Rattle.machine_model.proofs.TakeSeen.{binding_is}
pub use Rattle.machine_model.proofs.TakeWhole.{nothing_whole}
pub use Rattle.machine_model.proofs.TieLaws.{none_some}
pub use Rattle.machine_model.proofs.TookKept.{ArePairs}
pub use Rattle.machine_model.proofs.TransferKept.{active_at}
pub use Rattle.machine_model.proofs.UidsFew.{few_uids}
pub use Rattle.machine_model.proofs.Unstuck.{some_moves}
pub use Rattle.machine_model.proofs.VictimLaws.{all_used}
pub use Rattle.machine_model.proofs.VisitAll.{SameSeats, VisitSays, same_seats, visit_keeps_all, visit_over}
pub use Rattle.machine_model.proofs.WholeLaws.{no_page_left}
pub use Rattle.machine_model.proofs.WordLaws.{word_within}
pub use Rattle.machine_model.proofs.WorkStep.{BeginsMove, Looks}
pub use Rattle.machine_model.specs.Actions.{Action, FillPage, FillSeg, any_page, by_move, clear_or, come_to, copy_or_commit, descriptors_taken, finish_of, first_taken, frames_taken, go_on_with, has_had_its_turn, has_process, is_empty, is_over, load_or_idle, look_of, move_of, once_cleared, own_or_run, pool_of_node, refer_or_take, run_process, take_or_wait, transfer_or}
unfoldable pub use Rattle.machine_model.specs.Actions.{action_of}
pub use Rattle.machine_model.specs.After.{Outcome, by_outcome, no_call}
unfoldable pub use Rattle.machine_model.specs.After.{after}
pub use Rattle.machine_model.specs.Boot.{first_state, first_store}
pub use Rattle.machine_model.specs.Commits.{committed, committed_at, frames_freed, gone_entries, left_after, pages_past, with_cut, with_cut_in, with_deleted, with_effect, with_made, with_truncated, without_page, without_pages}
pub use Rattle.machine_model.specs.Custodial.{AreDistinct, AreHeldPages, AreHeldSegs, AreOfProcess, is_out as is_away, names}
pub use Rattle.machine_model.specs.Entitled.{IsEntitled}
pub use Rattle.machine_model.specs.Fitting.{IsFitting}
unfoldable pub use Rattle.machine_model.specs.Foreseen.{AllCome}
pub use Rattle.machine_model.specs.Holding.{holding, led_to, seen}
pub use Rattle.machine_model.specs.Jobs.{are_zeros, cut_all, cut_one, deactivation_begun, emptied, emptied as segment_emptied, entries_left, eviction_done, here_if, leaving_if, left_of, page_back, page_done, page_gone, page_in, pages_back, seg_back, seg_gone, segment_taken, segs_back, segs_gone, take_all, take_one, took, victim_taken, with_choice, with_hand_moved, with_here, with_inactive, with_leaving, with_left, with_relink, write_failed}
pub use Rattle.machine_model.specs.Keeps.{AreAccounts, IsFaithful, Keeps, StoreKept, is_fault}
pub use Rattle.machine_model.specs.Lacking.{MovesFor, MovesForNext, MovesIn, tables_of}
pub use Rattle.machine_model.specs.Looping.{AwaitsClear, AwaitsTransfer, CommandDone, Goes, HasTaken, IsReader, JobDone, JobFell, RoundDone, command_gauge, is_at}
unfoldable pub use Rattle.machine_model.specs.Measures.{all_rank, job_rank}
pub use Rattle.machine_model.specs.Movers.{AsksMover, mover_in, mover_of}
pub use Rattle.machine_model.specs.Moves.{copy_failed, move_begun, mover_to, page_copied}
pub use Rattle.machine_model.specs.Outline.{Outline, Runner, runner_at}
pub use Rattle.machine_model.specs.Outlined.{around, keeper_of, stage_of}
unfoldable pub use Rattle.machine_model.specs.Outlined.{outline_of}
pub use Rattle.machine_model.specs.Promise.{IsMachine, KeepsAll}
pub use Rattle.machine_model.specs.Reading.{IsReading}
pub use Rattle.machine_model.specs.Reads.{cpu_at, cut_of_owner, descriptor_of, first_inactive, flat_of, frame_reading, frames_from, frames_in, frames_of_owner, free_place, home_in, is_active, is_connected, is_due, next_command, no_processor, or_zero, process_at, processor_at, run_at, trailers_in}
pub use Rattle.machine_model.specs.Refusal.{is_of_room, only, uid_of_command, uid_of_number}
unfoldable pub use Rattle.machine_model.specs.Refusal.{move_to, outside_refusal, refusal_of, reply_of, room_refusal}
pub use Rattle.machine_model.specs.Returned.{IsLeaving, MayComeBack}
pub use Rattle.machine_model.specs.Rounds.{IsGoing, IsOwnedBy}
pub use Rattle.machine_model.specs.Said.{Says, left_page, shown_after, without_left}
pub use Rattle.machine_model.specs.Scheduled.{MayRun}
pub use Rattle.machine_model.specs.Seen.{bound_use, cut_uid, descriptor_use, frame_use, read_use, shown}
pub use Rattle.machine_model.specs.Shutdown.{after_visit, page_taken, visited_if}
pub use Rattle.machine_model.specs.State.{Owner, State, Storage}
pub use Rattle.machine_model.specs.Steps.{booked, brought, fault_told, held_page, old_word, pages_after, told, told_by, transfer_failed, transferred, went_through, with_faults, with_owner, with_pages, with_store}
pub use Rattle.machine_model.specs.Taking.{IsTakenBy, TakenIn, TakenTo}
pub use Rattle.machine_model.specs.Turns.{calls_drive, moves}
pub use Rattle.machine_model.specs.Visits.{AreIdle, AreVisited, TellsBack, WasVisited}
pub use Rattle.machine_model.specs.Whole.{IsWhole, goes_in, going_for}
pub use Rattle.machine_model.specs.Working.{IsLeaf, IsWorking}
pub use Rattle.machine_model.specs.declared.Aim.{Aim}
pub use Rattle.machine_model.specs.declared.CutDescriptor.{CutDescriptor}
pub use Rattle.machine_model.specs.declared.Phase.{Phase}
pub use Rattle.machine_model.specs.declared.Processor.{Processor}
pub use Rattle.machine_tables.proofs.EffectLaws.{effect_had}
pub use Rattle.machine_tables.proofs.FirstLaws.{first_keeps}
pub use Rattle.machine_tables.proofs.RangeLaws.{drive_each, more_volumes}
pub use Rattle.machine_tables.proofs.VictimLaws.{chain_end, chain_one_off, own_chain}
pub use Rattle.machine_tables.specs.Activated.{wanted_pool}
pub use Rattle.machine_tables.specs.Claimed.{HasItsSegment, frames_for, of_segment, pairs_for, took_for, what_for}
pub use Rattle.machine_tables.specs.Held.{AreLong, MayChoose}
pub use Rattle.machine_tables.specs.Made.{HasPlace, IsMakeable}
pub use Rattle.machine_tables.specs.Meant.{taken_for, why_of}
pub use Rattle.machine_tables.specs.Moved.{MayCopy}
pub use Rattle.machine_tables.specs.Owned.{HasOwner}
pub use Rattle.machine_tables.specs.Parts.{Parts, SparesCall, first_words, outcome_of, with_pages_of, with_state}
pub use Rattle.machine_tables.specs.Ready.{IsApplicable, MayCommit}
pub use Rattle.machine_tables.specs.Returned.{MayFail}
pub use Rattle.machine_tables.specs.Taken.{AreHere, IsEmptied, is_bare}
pub use Rattle.machine_tables.specs.Visited.{shown_visited}
pub use Rattle.machine_tables.specs.declared.action.Why.{Why}
pub use Rattle.machine.specs.Looped.{HasGone, HasMoved, HasStalled, HasTurned, MayWait, OwnerTurned, WaitsFor, is_into, is_still_at, reads_into, with_spare}
pub use Rattle.machine.specs.OnDisk.{HasHome, HasNode, IsOnDisk}
pub use Rattle.machine.specs.Promise.{IsSound}
pub use Rattle.machine.specs.Schedules.{Grows, HasRun, HasStood, IsRound, is_moved, tally, with_room, would_move}
pub use Rattle.machine.specs.Shut.{AllVisited, AreToldBack, CallsAtVisit, HasNoZeros, HasVisited, TellsLoss, words_of}
pub use Rattle.machine.specs.Sizes.{HaveSizes}
pub use Rattle.machine.specs.Starts.{parts_of}
pub use Rattle.machine.specs.Turns.{Appends, AreTold, CallsAs, CallsNone, CallsOne, CallsTwo, Changes, CountsAlike, HaveCounted, HaveEnded, IfMoved, IfStill, IsBusy, IsTurn, KeepsParts, LetsGo, MayAnswer, MayDo, RoseAtOne, TellsFaults, is_of_process, turn_of, why_by}
pub use Rattle.machine.specs.Unstuck.{IsDone, NamesAll}
pub use Rattle.machine.specs.declared.turn.Turn.{Turn}
pub use Rattle.machine.specs.declared.turn.Turn.TheVariants.{Waits}
