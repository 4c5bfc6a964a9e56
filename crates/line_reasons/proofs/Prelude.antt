-- The names that the proofs of this crate take from elsewhere.
pub use Rattle.std.proofs.Common.{Bool, IfSome, List, None, Option, Some, [], ap, arith, cond, drop, eqb, false, length, ltb, refl, subst, sym, take, true, ℕ, ◌&&◌, ◌+◌, ◌<◌, ◌∙◌, ◌∷◌, ◌≡◌, ◌≤◌}
pub use Rattle.std.proofs.lemmas.Bool.{and_from}
pub use Rattle.std.proofs.lemmas.Bool.Decides.{nat_tests}
pub use Rattle.std.proofs.lemmas.List.Elements.{All-from_get_or}
pub use Rattle.std.proofs.lemmas.List.Splits.{slice_split_first, slice_split_none}
pub use Rattle.std.proofs.lemmas.List.Sums.{fails_before_first}
pub use Rattle.std.specs.List.{position, position_or_len, slice_get, slice_split}
pub use Rattle.std.specs.Option.{is_some}
pub use Rattle.std.specs.Prelude.{◌==◌}
pub use Rattle.std.specs.Str.{bytes_eq}
pub use Rattle.laws.proofs.Numbers.{same_test}
pub use Rattle.text_model.proofs.LineSteps.{lines_nil, no_lines}
pub use Rattle.text_model.specs.Lines.{lines_of}
pub use Rattle.script.specs.Plans.{Plan}
pub use Rattle.script.specs.declared.plan.VolumeLine.{VolumeLine}
pub use Rattle.tree_model.specs.Tree.{Node, entries_on, has_directory, node_in, quota_in, taken_on, used_by}
pub use Rattle.flat_model.specs.Store.{Store, entries_in, records_in}
pub use Rattle.line_reasons.specs.DueLines.{IsAccountDue, IsVolumeDue, account_still}
unfoldable pub use Rattle.line_reasons.specs.DueLines.{IsDue, IsSoSum, account_reason, is_still_so, reason_of_end, reason_of_line, volume_reason}
pub use Rattle.line_reasons.specs.Fronts.{one_more, same_front}
pub use Rattle.line_reasons.specs.Grammar.{due_after, pieces}
pub use Rattle.line_reasons.specs.Reasons.{fault_at, or_later}
unfoldable pub use Rattle.line_reasons.specs.Reasons.{entry_reason_text, last_fault, reason_from}
pub use Rattle.line_reasons.specs.declared.due_lines.AccountDue.{AccountDue}
pub use Rattle.line_reasons.specs.declared.due_lines.DueLine.{DueLine}
pub use Rattle.line_reasons.specs.declared.due_lines.VolumeDue.{VolumeDue}
pub use Rattle.line_reasons.specs.declared.entry_reasons.EntryReason.{EntryReason}
pub use Rattle.line_reasons.specs.declared.grammar.Due.{Due, Due as due}
pub use Rattle.line_reasons.specs.declared.sum_reasons.SumReason.{SumReason, SumReason as reason}
pub use Rattle.line_reasons.specs.declared.sum_reasons.SumWord.{SumWord as word}
