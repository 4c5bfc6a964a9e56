-- The names that the proofs of this crate take from elsewhere.
pub use Rattle.std.proofs.Common.{All, Bool, Contains, Err, IfNone, IfSome, IsSome, List, None, Ok, OnErr, OnOk, Option, Result, Some, [], add-one, ap, arith, cond, count_by, drop, eqb, false, get_or, inl, inr, is_some, length, map, not, refl, remove, replicate, rules, set, slice_get, subst, suc, sum, sym, take, true, vec_capacity, vec_len, zero, ℕ, ◌&&◌, ◌++◌, ◌+◌, ◌-◌, ◌<◌, ◌^◌, ◌||◌, ◌∙◌, ◌∷◌, ◌≡◌, ◌≢◌, ◌≤◌, ◌⊎◌}
pub use Rattle.std.proofs.Math.ListN.{get_or-append, get_or-map}
pub use Rattle.std.proofs.Math.Seq.{get_or-append_seam, map-set_same, take-suc-set}
pub use Rattle.std.proofs.lemmas.Bool.{and_from, cases_eq, cases_lt, eq-eqb, eqb-true, ne_eqb}
pub use Rattle.std.proofs.lemmas.Bool.Decides.{eqb_tells}
pub use Rattle.std.proofs.lemmas.Grind.{common_steps}
pub use Rattle.std.proofs.lemmas.List.{append-nil, append_assoc, get_or-replicate, get_or-set_other, get_or-set_same, get_or_past, length-map, length-replicate, length-set, map-set, set-get_or, set-set, set_past}
pub use Rattle.std.proofs.lemmas.List.Edits.{length-remove}
pub use Rattle.std.proofs.lemmas.List.Elements.{All-get_or}
pub use Rattle.std.proofs.lemmas.List.Quantifiers.{position-Some}
pub use Rattle.std.proofs.lemmas.List.Sums.{sum_by-cons, sum_by-remove, sum_by-set, sum_by_push}
pub use Rattle.std.proofs.lemmas.Map.Keys.{IsDistinct-from_apart}
pub use Rattle.std.proofs.lemmas.Map.Steps.{length-le_from_distinct_below}
pub use Rattle.std.proofs.lemmas.Option.{get_or_from_slice_get, none-some, same_Some}
pub use Rattle.std.specs.List.{list_any, position, position_or_len}
pub use Rattle.std.specs.Prelude.{◌↔◌}
pub use Rattle.active_segs.specs.Active.{ActiveSegs, AreNullTables, IsActive, IsAway, IsFull, IsLeastFree, IsTree, activated, deactivated, entry_at, no_segments, null_tables, superior_at, superior_in, table_at, uid_at, uid_in, with_table}
pub use Rattle.active_segs.specs.Pool.{IsInPool, size_of}
pub use Rattle.active_segs.specs.Victim.{HasItsSuperiors, IsVictim}
pub use Rattle.active_segs.specs.declared.Entry.{Entry}
pub use Rattle.bitmap.specs.Bitmap.{in_use}
pub use Rattle.core_map.specs.CoreMap.{Core, bound_page, frame_at, is_bound, reads_of, started_page, with_frame}
pub use Rattle.core_map.specs.declared.Frame.{Frame}
pub use Rattle.core_map.specs.declared.Frame.TheVariants.{Bound, Free, Started}
pub use Rattle.descriptor_seg.specs.Descriptors.{all_faults, sdw_at}
pub use Rattle.descriptor_seg.specs.declared.Sdw.{Sdw}
pub use Rattle.descriptor_seg.specs.declared.Sdw.TheVariants.{Fault, Present}
pub use Rattle.known_segs.specs.Known.{HasOneNumberEach, uid_of, with_number, without_number}
pub use Rattle.laws.proofs.Bools.{and_parts, off_and_on}
pub use Rattle.laws.proofs.Lists.{all_same, get_or_any, length_push, one_left, position_there}
pub use Rattle.laws.proofs.Options.{map_some, not_none, page_is, some_number, some_unwrapped, times_few, times_one}
pub use Rattle.laws.proofs.Places.{length_of_four, put_here, put_other, shown_within}
pub use Rattle.mnames.specs.declared.modes.Mode.{Mode}
pub use Rattle.page_control.proofs.Counting.{named_here}
pub use Rattle.page_control.proofs.Facts.{bound_to}
pub use Rattle.page_control.proofs.Marks.{words_marked}
pub use Rattle.page_control.proofs.Moved.{tie_of_home, words_of_home}
pub use Rattle.page_control.proofs.Pictures.{bound_now, filed_same, out_by}
pub use Rattle.page_control.proofs.Ties.{bound_within}
pub use Rattle.page_control.specs.Counts.{KeepsCounts, taken, used}
unfoldable pub use Rattle.page_control.specs.Counts.{named_on}
pub use Rattle.page_control.specs.Effects.{after_asked, after_create, after_evict, after_read, dropped, erased, word_of_left, words_here, words_left}
pub use Rattle.page_control.specs.Moves.{IsCopied, KeepsHome, all_modified, rehomed_word}
pub use Rattle.page_control.specs.Picture.{KeepsWords, changed_page, is_binding, is_stored, words_at, words_filed, words_held, words_out}
unfoldable pub use Rattle.page_control.specs.Picture.{changed_at, is_filed_at, words_of_page}
pub use Rattle.page_control.specs.Plain.{Paging, Plain, binding_at, bindings, disk_of, filed, number_in, plain, record_of, uid_of_home, uid_or_zero, vtoc_of, with_volumes}
pub use Rattle.page_control.specs.Tied.{AreFiled, HasNoFrame, IsBlank, IsBoundOnce, IsMapOf, IsNamed, IsNotStarted, IsTableOf, flags_in, frame_of, has_record, is_out, map_at, uid_at as uid_homed, uid_in as uid_framed, vtoc_in}
pub use Rattle.page_control.specs.Ties.{IsTied, KeepsOthers, KeepsTies}
pub use Rattle.page_control.specs.declared.Home.{Home}
pub use Rattle.page_control.specs.declared.Left.{Left}
pub use Rattle.page_table.specs.PageTable.{ptw_at}
pub use Rattle.page_table.specs.declared.Ptw.{Ptw}
pub use Rattle.page_table.specs.declared.Ptw.TheVariants.{Here, Leaving, Null, Out}
pub use Rattle.seg_mover.proofs.Places.{entry_within, vols_same, vtoc_within}
pub use Rattle.seg_mover.proofs.Records.{count_given, gives, length_given}
pub use Rattle.seg_mover.specs.Copies.{AreCopied, IsLeastToCopy, after_copy, is_to_copy, moved_on, page_to_copy}
unfoldable pub use Rattle.seg_mover.specs.Copies.{first_to_copy}
pub use Rattle.seg_mover.specs.Homes.{entry_of, map_at as mover_map, place_at, uid_at as mover_uid, words_filed as mover_words, words_of}
pub use Rattle.seg_mover.specs.Moves.{CanBegin, IsMoving, begun, given_back, mover_for, number_or_zero, undone}
pub use Rattle.seg_mover.specs.Records.{AddsRecords, AreKept, flags_given}
pub use Rattle.seg_mover.specs.declared.Mover.{Mover}
pub use Rattle.trailers.specs.Trailer.{leads_to, place_in, trailers_of, without_place, without_trailer}
pub use Rattle.volumes.specs.Volumes.{HasParts, KeepsTables, Vols, records_at, vtoc_at, with_page}
pub use Rattle.vtoc.proofs.Table.{no_record}
pub use Rattle.vtoc.specs.Vtoc.{Entry as VtocEntry, entry_at as vtoc_entry, least_free_entry, record_at, records_in}
pub use Rattle.seg_control.specs.Control.{Control, Links, is_for, kst_at, leads, leads_at, sdws_at, table_of, word_of}
unfoldable pub use Rattle.seg_control.specs.Control.{place_of}
pub use Rattle.seg_control.specs.Effects.{all_taken, cut_one, faulting, gone, linked, no_links, table_here, table_left, unlinked, with_kst}
unfoldable pub use Rattle.seg_control.specs.Effects.{all_cut, reconnected, taken_from}
pub use Rattle.seg_control.specs.Kept.{AreAtRest, AreExact, AreFree, AreLinked, ArePaged, HasTable, HaveSizes, IsHomeFor, IsHomeOf, IsInactive, IsKept, IsKnownAt, IsNotRead, IsOutAt, MayReconnect, pair_at, read_at, times}
pub use Rattle.seg_control.specs.Moving.{IsKeptAtRest, IsOnItsWay, IsUnderWay, IsUnread, at_rest, home_at, in_move, is_framed, next_out, volumes_of}
unfoldable pub use Rattle.seg_control.specs.Moving.{first_out}
pub use Rattle.seg_control.specs.Next.{AreActive, FitsIn, IsFirstInactive, IsGoing, IsStuck, MayActivate, filed_word, link_at, made_active, no_link, superior_of, uids_of, words_in}
unfoldable pub use Rattle.seg_control.specs.Next.{table_for}
pub use Rattle.seg_control.specs.declared.Link.{Link}
pub use Rattle.seg_control.specs.declared.Next.TheVariants.{Victim}
