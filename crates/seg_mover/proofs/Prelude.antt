-- The names that the proofs of this crate take from elsewhere.
pub use Rattle.std.proofs.Common.{All, Bool, Err, IfSome, IsSome, List, None, Ok, OnErr, OnOk, Option, Result, Some, [], ap, append_assoc, arith, cond, count_by, drop, false, get_or, inl, inr, is_some, length, map, not, refl, rules, set, subst, suc, sum_by, sym, take, true, zero, ℕ, ◌&&◌, ◌++◌, ◌+◌, ◌-◌, ◌<◌, ◌∙◌, ◌∷◌, ◌≡◌, ◌≢◌, ◌≤◌, ◌⊎◌}
pub use Rattle.std.proofs.lemmas.Bool.{cases_eq, lt-ltb}
pub use Rattle.std.proofs.lemmas.List.{append-nil, at_drop_more, drop_all, get_or-map, get_or-set_other, get_or-set_same, get_or_past, length-map, length-set, set-get_or, set-set, set_past, take_all, take_more, take_more_set}
pub use Rattle.std.proofs.lemmas.List.Elements.{All-head, All-tail}
pub use Rattle.std.proofs.lemmas.List.Quantifiers.{position-Some}
pub use Rattle.std.proofs.lemmas.List.Sums.{fails_before_first, sum_by-cons, sum_by-set}
pub use Rattle.std.proofs.lemmas.Result.{err_from_is_err_and}
pub use Rattle.std.specs.List.{position_or_len}
pub use Rattle.bitmap.specs.Bitmap.{IsLeastFree, in_use, least_free}
pub use Rattle.laws.proofs.Bools.{by_not, not_true, off_and_on}
pub use Rattle.laws.proofs.Lists.{given_twice, none_put, sum_of_map}
pub use Rattle.laws.proofs.Numbers.{below_or_past}
pub use Rattle.laws.proofs.Options.{map_some, not_none, some_number, some_same}
pub use Rattle.laws.proofs.Places.{count_with, count_without, flag_within, list_within, put, put_here, put_other, put_put, seen_same, some_within}
pub use Rattle.site_io.specs.Faults.{Rose}
pub use Rattle.volumes.specs.FailLine.{IsOneMore}
pub use Rattle.volumes.specs.Volumes.{HasParts, KeepsOthers, KeepsTables, Vols, faults_at, pages_at, records_at, used_at, vtoc_at, with_page, with_record_used, with_vtoc}
pub use Rattle.vtoc.proofs.Table.{count_freed, length_no_records, no_record}
unfoldable pub use Rattle.vtoc.specs.FileMap.{no_records}
pub use Rattle.vtoc.specs.Vtoc.{Entry, HasFullMaps, IsLeastFreeEntry, NamesNoRecord, fresh_entry, records_in, uid_of, with_record}
pub use Rattle.seg_mover.specs.Copies.{AreCopied, CallsDrives, FailedAt, HasCopied, IsLeastToCopy, after_copy, copied, is_to_copy, moved_on, page_to_copy}
unfoldable pub use Rattle.seg_mover.specs.Copies.{first_to_copy}
pub use Rattle.seg_mover.specs.Homes.{entry_of, map_at, place_at, uid_at, words_filed, words_of}
pub use Rattle.seg_mover.specs.Moves.{CanBegin, IsMoving, KeepsOthersThan, begun, entry_for, given_back, number_or_zero}
pub use Rattle.seg_mover.specs.Records.{AddsRecords, AreKept, flags_given, flags_taken, map_taken, with_taken}
pub use Rattle.seg_mover.specs.Steps.{IsPartBegun, IsPartGiven, entry_taken, page_given, page_stored, with_place}
pub use Rattle.seg_mover.specs.declared.Mover.{Mover}
