-- The names that the proofs of this crate take from elsewhere.
pub use Rattle.std.proofs.Common.{All, Bool, IsSome, IsTrue, List, None, Option, Some, [], ap, arith, cond, count_by, drop, eq-eqb, eqb, false, get_or, inl, inr, is_some, length, ltb, map, refl, replicate, rules, set, subst, suc, sym, take, true, zero, ℕ, ◌&&◌, ◌++◌, ◌+◌, ◌-◌, ◌<◌, ◌||◌, ◌↔◌, ◌∙◌, ◌∷◌, ◌≡◌, ◌≢◌, ◌≤◌, ◌⊎◌}
pub use Rattle.std.proofs.Math.ListN.{get_or-map}
pub use Rattle.std.proofs.Math.Seq.{map-set_same}
pub use Rattle.std.proofs.lemmas.Bool.{cases_eq}
pub use Rattle.std.proofs.lemmas.Bool.Decides.{eqb_tells, leb_tells}
pub use Rattle.std.proofs.lemmas.Grind.{common_steps, same_number_lists}
pub use Rattle.std.proofs.lemmas.List.{at_drop_all, at_drop_more, drop-set-lt, ext_get_or, get_or-drop, get_or-replicate, get_or-set_other, get_or-set_same, get_or_past, length-map, length-replicate, length-set, map-set, set-get_or, set-set, set_past}
pub use Rattle.std.proofs.lemmas.List.Elements.{All-get_or}
pub use Rattle.std.proofs.lemmas.List.Folds.{position_or_len-set}
pub use Rattle.std.proofs.lemmas.List.Quantifiers.{position-Some}
pub use Rattle.std.proofs.lemmas.List.Sums.{sum_by-set}
pub use Rattle.std.specs.List.{position, position_or_len}
pub use Rattle.std.specs.Prelude.{Err, IfNone, IfOk, IfSome, Ok, OnErr, OnOk, Result}
pub use Rattle.bitmap.specs.Bitmap.{IsLeastFree, in_use}
pub use Rattle.core_map.specs.Clock.{IsClockChoice, unmarked, way}
pub use Rattle.core_map.specs.CoreMap.{Core, after_reference, bound_page, frame_at, is_bound, is_modified, reads_of, started_page, with_frame, with_modified}
pub use Rattle.core_map.specs.declared.Frame.{Frame}
pub use Rattle.core_map.specs.declared.Frame.TheVariants.{Bound, Free, Started}
pub use Rattle.laws.proofs.Bools.{off_and_on}
pub use Rattle.laws.proofs.Lists.{none_put, position_nowhere, within_from}
pub use Rattle.laws.proofs.Numbers.{below}
pub use Rattle.laws.proofs.Options.{map_some, none_there, not_none, page_is, some_unwrapped}
pub use Rattle.laws.proofs.Places.{count_with, count_without, flag_within, list_within, put, put_here, put_other, put_put}
pub use Rattle.mword.specs.Words.{AreZero}
pub use Rattle.page_table.specs.PageTable.{ptw_at}
pub use Rattle.page_table.specs.declared.Ptw.{Ptw}
pub use Rattle.page_table.specs.declared.Ptw.TheVariants.{Here, Leaving, Null, Out}
pub use Rattle.volumes.specs.Volumes.{with_page}
pub use Rattle.vtoc.proofs.Table.{no_record}
unfoldable pub use Rattle.vtoc.specs.FileMap.{no_records}
pub use Rattle.vtoc.specs.Vtoc.{Entry, HasFullMaps, IsLeastFreeEntry, NamesNoRecord, entry_at, fresh_entry, record_at, records_in, uid_of, with_record}
pub use Rattle.page_control.specs.Counts.{KeepsCounts, taken, taken_after, used}
unfoldable pub use Rattle.page_control.specs.Counts.{named_on, one_less, one_more}
pub use Rattle.page_control.specs.Effects.{after_asked, allocated, brought_in, created, dropped, erased, evicted, framed, freed, next_record, referred, unstored, word_of_left, worded}
pub use Rattle.page_control.specs.Erasing.{IsPartErased}
pub use Rattle.page_control.specs.Moves.{IsCopied, IsHomeFor, IsWrittenAt, KeepsHome, all_modified, modified_before, modified_of, part_modified, rehomed_word, written}
unfoldable pub use Rattle.page_control.specs.Moves.{rehomed}
pub use Rattle.page_control.specs.Picture.{ChangesStored, ChangesWords, KeepsWords, changed_page, is_binding, is_kept, is_stored, words_at, words_filed, words_held, words_out}
unfoldable pub use Rattle.page_control.specs.Picture.{changed_at, is_filed_at, words_of_page}
pub use Rattle.page_control.specs.Plain.{Paging, Plain, binding_at, bindings, disk_of, entry_of, file_map_of, filed, flags_of, frame_in, number_in, number_or_zero, plain, record_of, uid_of_home, with_volumes, words_in, words_on}
pub use Rattle.page_control.specs.Steps.{HasAsked, HasCreated, HasLeft, HasRead}
pub use Rattle.page_control.specs.Tied.{AreFiled, HasNoFrame, IsBlank, IsBoundOnce, IsBoundTo, IsInFrame, IsMapOf, IsNamed, IsTableOf, flags_in, frame_of, has_record, is_away, is_out, map_at, uid_at, uid_in, vtoc_in}
pub use Rattle.page_control.specs.Ties.{IsSeen, IsTied, KeepsOthers, KeepsTies}
pub use Rattle.page_control.specs.declared.Home.{Home}
pub use Rattle.page_control.specs.declared.Left.{Left}
pub use Rattle.page_control.specs.declared.Left.TheVariants.{Kept, Released}
