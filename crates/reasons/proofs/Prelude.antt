-- The names that the proofs of this crate take from elsewhere.
pub use Rattle.std.proofs.Common.{Bool, Err, List, None, Ok, Option, Result, Some, [], ap, append-nil as nil_after, arith, false, if◌then◌else◌, inl, inr, leb, length, map, refl, subst, sym, take, true, ℕ, ◌++◌, ◌+◌, ◌<◌, ◌==◌, ◌^◌, ◌∙◌, ◌∷◌, ◌≡◌, ◌≤◌, ◌⊎◌}
pub use Rattle.std.proofs.lemmas.Bool.Decides.{leb_tells, nat_tests}
pub use Rattle.std.proofs.lemmas.List.{append_assoc, length-append, map-append, take-append-le, take_all}
pub use Rattle.std.specs.Bool.{Decides}
pub use Rattle.std.specs.List.{list_any}
pub use Rattle.std.specs.Prelude.{IfNone, IfOk, IfSome}
pub use Rattle.text_model.proofs.LineSteps.{lines_nil}
pub use Rattle.text_model.specs.Lines.{onto_piece}
unfoldable pub use Rattle.text_model.specs.Lines.{lines_of}
unfoldable pub use Rattle.script.specs.Grammar.{script_of}
pub use Rattle.script.specs.Plans.{Plan}
pub use Rattle.script.specs.declared.refusals.Refusal.{Refusal}
unfoldable pub use Rattle.book.specs.Entries.{entry_text}
pub use Rattle.book.specs.Reading.{IsEntry}
pub use Rattle.book.specs.declared.entries.Entry.{Entry}
unfoldable pub use Rattle.flat_model.specs.Legal.{IsComplete, store_after}
pub use Rattle.flat_model.specs.Store.{Store}
unfoldable pub use Rattle.custody_model.specs.Clean.{custody_after}
pub use Rattle.custody_model.specs.Custody.{Custody}
pub use Rattle.flat_store.specs.Shown.{Kept, Shows}
pub use Rattle.custody.specs.Tables.{AreNodes, AreTablesOf, HaveRoom, Tables, custody_of}
pub use Rattle.book_check.proofs.GoingLaws.{ended_summary}
pub use Rattle.book_check.proofs.VerdictLaws.{fault_only, passed}
unfoldable pub use Rattle.book_check.specs.Closing.{IsTheVerdict}
pub use Rattle.book_check.specs.Going.{Finds, IsJudgedFrom}
pub use Rattle.book_check.specs.Inputs.{first_number, is_summary, listing_lines, script_lines}
unfoldable pub use Rattle.book_check.specs.Inputs.{entry_lines, is_book, script_of_lines, summary_lines}
pub use Rattle.book_check.specs.Judging.{IsAfter, IsNext, Judged, Meets, Stays}
unfoldable pub use Rattle.book_check.specs.Judging.{OnlyOne, Takes}
pub use Rattle.book_check.specs.Verdicts.{Breaks, BreaksEntry, IsJudged, IsJudgedBy, MayStand}
unfoldable pub use Rattle.book_check.specs.Verdicts.{AreJudged}
pub use Rattle.book_check.specs.declared.judge.LineFault.{LineFault}
pub use Rattle.book_check.specs.declared.offences.CheckFault.{CheckFault}
pub use Rattle.book_check.specs.declared.offences.Offence.{Offence}
pub use Rattle.book_check.specs.declared.offences.Rule.{Rule}
unfoldable pub use Rattle.legal_reasons.specs.Reasons.{HaveEnded, Says as LegalSays}
pub use Rattle.legal_reasons.specs.declared.reasons.Reason.{Reason as LegalReason}
pub use Rattle.clean_reasons.specs.Reasons.{Says as CleanSays}
pub use Rattle.clean_reasons.specs.declared.reasons.Reason.{Reason as CleanReason}
unfoldable pub use Rattle.line_reasons.specs.DueLines.{is_still_so}
pub use Rattle.line_reasons.specs.declared.sum_reasons.SumReason.{SumReason}
pub use Rattle.reasons.specs.Passing.{AreUpTo, Begins, EndsAt, EndsBefore, IsRefused, IsWatched, Looks, Passes}
pub use Rattle.reasons.specs.Reasons.{HasSince, IsSince, IsWhy, first_of, is_end}
unfoldable pub use Rattle.reasons.specs.Reasons.{SaysAt, why_line}
pub use Rattle.reasons.specs.Told.{HasLine, HasText, IsTold, IsUnfaulted, MayLackReason, Tells, TellsOrNot}
pub use Rattle.reasons.specs.declared.asking.Reason.{Reason}
