-- The names that the proofs of this crate take from elsewhere.
pub use Rattle.std.proofs.Common.{Bool, Err, IfSome, List, None, Option, Some, [], ap, arith, cond, drop, false, inl, inr, is_some, length, map, min, refl, rules, subst, suc, sym, take, true, ℕ, ◌++◌, ◌+◌, ◌-◌, ◌<◌, ◌^◌, ◌∙◌, ◌∷◌, ◌≡◌, ◌≢◌, ◌≤◌, ◌⊎◌}
pub use Rattle.std.proofs.KnownBytes.{Consumes-nil, Keeps-refl}
pub use Rattle.std.proofs.lemmas.Bool.{cases_eq, or_parts}
pub use Rattle.std.proofs.lemmas.Bool.Decides.{nat_tests}
pub use Rattle.std.proofs.lemmas.List.{length-replicate, length_push}
pub use Rattle.std.proofs.lemmas.List.Sums.{count_by-le-length, length-filter, sum_by-cons}
pub use Rattle.std.proofs.lemmas.Option.{get_or_from_slice_get, slice_get-map, slice_get_within}
pub use Rattle.std.specs.Io.KnownBytes.{Appends, Keeps}
pub use Rattle.std.specs.List.{list_any}
pub use Rattle.std.specs.Option.{option_map}
pub use Rattle.std.specs.Prelude.{IfOk, IsSomeAnd, Ok, Result, count_by, filter, nat_lt, replicate, slice_get, sum_by, ◌==◌, ◌||◌}
unfoldable pub use Rattle.site_io.specs.Streams.{AppendsFront, ConsumesFront}
pub use Rattle.site_io.specs.declared.whole.Unread.{Unread}
unfoldable pub use Rattle.script.specs.Grammar.{script_of}
pub use Rattle.script.specs.Plans.{Plan}
pub use Rattle.script.specs.declared.plan.Fail.{Fail}
pub use Rattle.script.specs.declared.refusals.Refusal.{Refusal}
pub use Rattle.book.specs.declared.entries.Entry.{Entry}
unfoldable pub use Rattle.make_work.specs.Day.{made}
unfoldable pub use Rattle.flat_model.specs.Legal.{store_after}
pub use Rattle.flat_model.specs.Store.{records_in, records_of}
pub use Rattle.listing.specs.Listings.{Summary, uses_of}
unfoldable pub use Rattle.listing.specs.Listings.{body_of, listing_of, summary_of, summary_text}
unfoldable pub use Rattle.book_check.specs.Closing.{IsTheVerdict}
pub use Rattle.book_check.specs.Verdicts.{IsVerdict}
pub use Rattle.book_check.specs.declared.offences.CheckFault.{CheckFault}
pub use Rattle.book_check.specs.declared.offences.Offence.{Offence}
pub use Rattle.volumes.specs.CoreDrive.{faults_of, fresh_drive}
pub use Rattle.volumes.specs.FailLine.{HasFewFaults}
unfoldable pub use Rattle.volumes.specs.FailLine.{named_calls}
pub use Rattle.volumes.specs.Volumes.{HaveFewFaults}
pub use Rattle.volumes.specs.declared.drive.FailLine.{FailLine}
pub use Rattle.bulk_store.specs.AnyDrive.{any_pages, any_places, disk_of}
pub use Rattle.bulk_store.specs.declared.any_drive.AnyDrive.{AnyDrive}
pub use Rattle.machine_model.proofs.CountLaws.{count_cons}
pub use Rattle.machine_model.proofs.ListLaws.{map_length}
pub use Rattle.machine_model.proofs.TieLaws.{none_some}
pub use Rattle.machine_model.specs.Actions.{is_over}
pub use Rattle.machine_model.specs.Boot.{first_state, first_store}
pub use Rattle.machine_model.specs.Keeps.{is_fault}
pub use Rattle.machine_tables.specs.Parts.{first_words}
pub use Rattle.machine.proofs.CallLaws.{counted_on}
pub use Rattle.machine.specs.Schedules.{Grows}
pub use Rattle.machine.specs.Turns.{HaveCounted, KeepsParts}
pub use Rattle.drill.specs.Texts.{drill_text}
pub use Rattle.circular_buffer.proofs.Places.{slice_get-last, slice_get-push}
pub use Rattle.runner.specs.Drives.{AreTold, IsFresh, TellsFaults, faults_in, is_on, line_of, lines_in, places_in, plan_of}
pub use Rattle.runner.specs.Endings.{Change, Ends, EndsSo, Failed, HasPrinted, IsJudgedSo, IsReading, IsRefused, IsStatusOf, LeavesRun, MayHaveRun, Printed, Prints, PrintsIfRun, Runs, Says, Unreads, Writes, WritesAll, WritesFront, cut, limit_of, whole}
pub use Rattle.runner.specs.Runs.{IsBooted, IsRun, IsShutDown, Machine}
pub use Rattle.runner.specs.Texts.{usage_text}
unfoldable pub use Rattle.runner.specs.Texts.{accepted_text}
pub use Rattle.runner.specs.declared.finished.Finished.{Finished}
pub use Rattle.runner.specs.declared.finished.Status.{Status}
pub use Rattle.runner.specs.declared.words.Form.{Form}
