-- The laws of this crate that the answers take.
pub use Rattle.storage_ops.proofs.ChainDown.{may_activate, shown_next, store_next}
pub use Rattle.storage_ops.proofs.Changed.{acl_shown, acl_store, move_shown, move_store}
pub use Rattle.storage_ops.proofs.CutExactly.{cleared_exactly, cleared_told, cut_dropped, cut_evenly, cut_kept, cut_next, cut_oddly, dropped_exactly, erased_exactly, none_from, null_cleared, others_both, put_out_exactly, same_uid}
pub use Rattle.storage_ops.proofs.Dropped.{HasDropped, drop_done, recount_other}
pub use Rattle.storage_ops.proofs.FoundLaws.{leads_branch, leads_segment}
pub use Rattle.storage_ops.proofs.Fresh.{blank, boot_is, dir_volume, entries_some, entry_first, new_length, none_active, none_known, nothing, records_most, root_gains, seg_volume, shown_nothing, store_nothing}
pub use Rattle.storage_ops.proofs.Held.{active_held, bound_held, held, home_for_held, home_held, known_held, leaving_held, length_held, shown_held, store_after, there_held, tree_held, word_held}
pub use Rattle.storage_ops.proofs.Homes.{HasNewHome, shown_new, store_new}
pub use Rattle.storage_ops.proofs.Known.{initiate_answered, known_store, terminate_shown, under_with}
pub use Rattle.storage_ops.proofs.Lengths.{filed_there, from_told, length_answered, length_shown, length_store, record_told, within_told}
pub use Rattle.storage_ops.proofs.Less.{shown_all_cut, shown_linked, store_all_cut, store_cut, store_inactive}
pub use Rattle.storage_ops.proofs.LinkLaws.{known_reconnected, store_linked, store_reconnected}
pub use Rattle.storage_ops.proofs.Made.{after_make_is, all_used, length_inside, made_told, some_free}
pub use Rattle.storage_ops.proofs.MoveFacts.{committed_entries, committed_sizes, may_begin}
pub use Rattle.storage_ops.proofs.NamingLaws.{initiate_free, initiate_refused, initiate_told, terminate_told}
pub use Rattle.storage_ops.proofs.NodeLaws.{found_there, segment_there}
pub use Rattle.storage_ops.proofs.PageFacts.{node_segment, page_counted, page_segment, table_told, word_within}
pub use Rattle.storage_ops.proofs.PageLeft.{may_release, shown_left, store_left}
pub use Rattle.storage_ops.proofs.PageMade.{shown_made, shown_zeroed, store_made, zeros_null}
pub use Rattle.storage_ops.proofs.PageMoves.{store_dropped}
pub use Rattle.storage_ops.proofs.PageRoom.{all_taken, full_told, no_quota, no_record, ok_then, on_ok, room, spent_told, used_told, written_made}
pub use Rattle.storage_ops.proofs.PageWords.{bound_active, bound_filed, bound_words, shown_put, word_at, written_there}
pub use Rattle.storage_ops.proofs.Paged.{active_place, active_there, active_tie, blank_shown, past_unfiled, place_found, unfiled_unframed, word_filed}
pub use Rattle.storage_ops.proofs.PagesLess.{MayDrop, cut_told, frame_bound, frame_is_bound, frame_told, leaving_bound, leaving_is, leaving_words, may_drop, not_leaving, null_of, picture_bound, shown_cut, unstores_cut, unstores_null, unstores_one}
pub use Rattle.storage_ops.proofs.PathRefusals.{branch_refuses, refusal_told, segment_refuses}
pub use Rattle.storage_ops.proofs.Refusals.{target_found, target_gone, target_unknown, want_told, within_told as Refusals_within_told}
pub use Rattle.storage_ops.proofs.Rehomed.{HasRehomed, shown_rehomed, store_rehomed}
pub use Rattle.storage_ops.proofs.Removed.{branch_same, leaf_place, place_away, place_cut, place_idle, removed_done, shown_removed, store_removed}
pub use Rattle.storage_ops.proofs.Rest.{cuts_even, cuts_odd, out_active, out_inactive, out_still, rest_accounts, rest_both, rest_erased, rest_inactive, rest_known, rest_made, rest_none, rest_unstored}
pub use Rattle.storage_ops.proofs.RoomsFound.{none_roomy, room_shown}
pub use Rattle.storage_ops.proofs.Still.{here_entries, own_home, shown_kept, store_still}
pub use Rattle.storage_ops.proofs.Tables.{all_drives, homed_volume}
pub use Rattle.storage_ops.proofs.Unstored.{active_still, home_still, idle_still, taken_past, unrecorded, unstores_both, unstores_none, unstores_past, unstores_same}
