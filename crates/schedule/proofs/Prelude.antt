-- The names that the proofs of this crate take from elsewhere.
pub use Rattle.std.proofs.Common.{Bool, Err, IfSome, List, None, Ok, Option, Result, Some, [], ap, arith, cond, drop, false, fold, get_or, length, map, refl, rules, subst, sym, true, ℕ, ◌&&◌, ◌++◌, ◌+◌, ◌-◌, ◌<◌, ◌∙◌, ◌∷◌, ◌≡◌, ◌≤◌}
pub use Rattle.std.proofs.lemmas.List.{append-nil, append_assoc, drop-map}
pub use Rattle.std.proofs.lemmas.List.Elements.{All-push}
pub use Rattle.std.proofs.lemmas.Option.{none-some}
pub use Rattle.std.proofs.lemmas.Slice.Eq.{bytes_eq-Decides}
pub use Rattle.std.specs.Str.{bytes_eq}
pub use Rattle.laws.proofs.Lists.{one_left}
pub use Rattle.script.specs.Drafts.{blank}
pub use Rattle.script.specs.Grammar.{Reads, finished, numbered}
unfoldable pub use Rattle.script.specs.Grammar.{script_of}
pub use Rattle.script.specs.Plans.{Plan}
pub use Rattle.script.specs.declared.reader.ScriptFault.{ScriptFault}
pub use Rattle.script.specs.declared.refusals.Refusal.{Refusal}
pub use Rattle.text_model.proofs.PartLaws.{end_after, end_before, end_first, end_found, line_passed, stop_after, stop_before, stop_first, stop_found}
pub use Rattle.text_model.specs.Lines.{fields_of}
unfoldable pub use Rattle.text_model.specs.Lines.{lines_of}
pub use Rattle.text_model.specs.Parts.{IsAtLine}
pub use Rattle.schedule.specs.Fields.{after_word, begins}
pub use Rattle.schedule.specs.Inputs.{first_number, has_schedule, is_schedule_line, schedule_lines, script_lines}
pub use Rattle.schedule.specs.Orders.{AreWithin, IsWithin, after_line, as_lines, line_order, onto, orders_in}
unfoldable pub use Rattle.schedule.specs.Orders.{orders_from}
pub use Rattle.schedule.specs.Scheduled.{FailsLines, FailsScheduled, ReadsScheduled, of_script, with_orders, with_plan}
unfoldable pub use Rattle.schedule.specs.Scheduled.{scheduled_of, script_of_lines}
pub use Rattle.schedule.specs.declared.orders.Line.{Line}
pub use Rattle.schedule.specs.declared.orders.Order.{Order}
pub use Rattle.schedule.specs.declared.reader.ScheduleFault.{ScheduleFault}
pub use Rattle.schedule.specs.declared.refusals.Cause.{Cause}
pub use Rattle.schedule.specs.declared.refusals.Refused.{Refused}
