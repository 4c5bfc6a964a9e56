-- The names that the proofs of this crate take from elsewhere.
pub use Rattle.std.proofs.Common.{Bool, Err, IsTrue, List, None, Ok, Option, Result, Some, [], ap, append-nil, arith, cond, drop, eqb, false, get_or, inl, inr, length, map, refl, replicate, rules, set, string_bytes, subst, suc, sym, take, true, zero, ℕ, ℤ, ◌++◌, ◌+◌, ◌-◌, ◌<◌, ◌^◌, ◌↔◌, ◌∙◌, ◌∷◌, ◌≡◌, ◌≢◌, ◌≤◌}
pub use Rattle.std.proofs.lemmas.Bool.{cases_Bool}
pub use Rattle.std.proofs.lemmas.Bool.Decides.{nat_tests}
pub use Rattle.std.proofs.lemmas.Grind.{common_steps}
pub use Rattle.std.proofs.lemmas.List.{append_assoc, length-append}
pub use Rattle.std.proofs.lemmas.Slice.Eq.{bytes_eq-Decides}
pub use Rattle.std.specs.Bool.{Decides}
pub use Rattle.std.specs.Str.{bytes_eq}
pub use Rattle.mnames.specs.declared.modes.Mode.{Mode}
pub use Rattle.mnames.specs.declared.rows.Row.{Row as Named}
pub use Rattle.text_model.proofs.LineSteps.{all_left, drop_at, lines_nil, no_lines}
pub use Rattle.text_model.proofs.PartLaws.{end_after, end_before, end_first, line_passed, stop_after, stop_before, stop_first}
pub use Rattle.text_model.specs.Lines.{onto_piece}
unfoldable pub use Rattle.text_model.specs.Lines.{lines_of}
pub use Rattle.text_model.specs.Parts.{IsAtLine}
pub use Rattle.script.specs.Grammar.{Reads}
unfoldable pub use Rattle.script.specs.Grammar.{script_of}
pub use Rattle.script.specs.Plans.{Plan, command_at}
pub use Rattle.script.specs.References.{alters, new_word, reference_of}
pub use Rattle.script.specs.declared.commands.Command.{Command}
pub use Rattle.script.specs.declared.commands.Reference.{Reference}
pub use Rattle.script.specs.declared.reader.ScriptFault.{ScriptFault}
pub use Rattle.script.specs.declared.refusals.Refusal.{Refusal}
unfoldable pub use Rattle.book.specs.Entries.{entry_text}
pub use Rattle.book.specs.Reading.{IsEntry}
pub use Rattle.book.specs.declared.entries.Entry.{Entry}
pub use Rattle.book.specs.declared.replies.Reply.{Reply}
pub use Rattle.tree_model.specs.Access.{Row}
pub use Rattle.tree_model.specs.Tree.{Node, quota_in}
unfoldable pub use Rattle.tree_model.specs.Tree.{used_by}
pub use Rattle.tree_model.specs.Trees.{IsTree}
pub use Rattle.flat_model.proofs.BookLaws.{last_of-push, legal_nil, legal_push, part-push, part-skip, store_after-nil, store_after-push}
pub use Rattle.flat_model.proofs.QuotaTotals.{all_within, boot_total, entry_total, total}
pub use Rattle.flat_model.proofs.SharedLaws.{going_within}
pub use Rattle.flat_model.specs.Branches.{branch_at, changed, directory_at, parts_of, segment_at}
unfoldable pub use Rattle.flat_model.specs.Branches.{node_at}
pub use Rattle.flat_model.specs.Commands.{effect_by, effect_of, effect_of_tree_command, gone_on, is_end, takes_effect, tries_on}
unfoldable pub use Rattle.flat_model.specs.Commands.{after_command}
pub use Rattle.flat_model.specs.Legal.{IsAnswer, IsEnd, IsLawfulDo, IsSettled, MayFault, after_do, after_fault, is_part, last_of}
unfoldable pub use Rattle.flat_model.specs.Legal.{IsComplete, IsLawful, IsLegal, IsLegalFrom, after_entry, part, store_after, store_from}
pub use Rattle.flat_model.specs.Making.{deleted, made_at, made_of}
unfoldable pub use Rattle.flat_model.specs.Making.{after_delete, after_make}
pub use Rattle.flat_model.specs.Naming.{initiated}
unfoldable pub use Rattle.flat_model.specs.Naming.{after_initiate, after_terminate}
pub use Rattle.flat_model.specs.Pages.{is_stored}
unfoldable pub use Rattle.flat_model.specs.Pages.{is_zero_page}
pub use Rattle.flat_model.specs.References.{written, written_by}
unfoldable pub use Rattle.flat_model.specs.References.{after_reference}
pub use Rattle.flat_model.specs.Rights.{moved}
unfoldable pub use Rattle.flat_model.specs.Rights.{after_acl, after_move}
pub use Rattle.flat_model.specs.Sizes.{truncated}
unfoldable pub use Rattle.flat_model.specs.Sizes.{after_length, after_truncate}
pub use Rattle.flat_model.specs.Store.{Progress, Store, at_first, known_uid, progress_of, with_progress}
unfoldable pub use Rattle.flat_model.specs.Store.{boot}
pub use Rattle.custody_model.proofs.CleanLaws.{clean_nil, clean_push, custody_after-nil, custody_after-push}
pub use Rattle.custody_model.proofs.TurnLaws.{count_next}
pub use Rattle.custody_model.specs.Allowed.{IsAllowed}
unfoldable pub use Rattle.custody_model.specs.Clean.{IsClean, IsCleanFrom, custody_after, custody_from}
pub use Rattle.custody_model.specs.Custody.{Custody, nothing_held}
unfoldable pub use Rattle.custody_model.specs.Next.{custody_next}
pub use Rattle.flat_store.specs.Shown.{Kept, Shows}
unfoldable pub use Rattle.flat_store.specs.Zeros.{HasZeroPage}
unfoldable pub use Rattle.listing.specs.Listings.{summary_of, summary_text}
pub use Rattle.custody.specs.Tables.{AreNodes, AreTablesOf, HaveRoom, Tables, custody_of}
pub use Rattle.book_check.specs.Closing.{OrMemory, at_line, of_script}
unfoldable pub use Rattle.book_check.specs.Closing.{Closes, IsOneVerdict, IsTheVerdict}
pub use Rattle.book_check.specs.Going.{Finds, IsJudgedFrom, IsReached}
pub use Rattle.book_check.specs.Inputs.{after_spaces, first_number, is_summary, listing_lines, script_lines}
unfoldable pub use Rattle.book_check.specs.Inputs.{entry_lines, is_book, script_of_lines, summary_lines}
pub use Rattle.book_check.specs.Judging.{Breaks, EndsAgree, IsAfter, IsNext, Judged}
unfoldable pub use Rattle.book_check.specs.Judging.{Allows, Forbids, HaveEnded, OnlyOne, Takes}
pub use Rattle.book_check.specs.Verdicts.{AreEntries, BreaksEnd, BreaksEntry, IsJudged, IsJudgedBy, IsTextOf, IsWhole, MayStand, due_lines, same_lines}
unfoldable pub use Rattle.book_check.specs.Verdicts.{AreJudged}
pub use Rattle.book_check.specs.declared.judge.LineFault.{LineFault}
pub use Rattle.book_check.specs.declared.offences.CheckFault.{CheckFault}
pub use Rattle.book_check.specs.declared.offences.Offence.{Offence}
pub use Rattle.book_check.specs.declared.offences.Rule.{Rule}
