-- The names that the proofs of this crate take from elsewhere.
pub use Rattle.std.proofs.Common.{Bool, Err, IfSome, List, None, Ok, Option, Result, Some, ap, arith, false, length, refl, rules, subst, sym, true, ℕ, ◌++◌, ◌+◌, ◌<◌, ◌∙◌, ◌≡◌, ◌≤◌}
pub use Rattle.book_check.specs.declared.offences.Offence.{Offence}
pub use Rattle.lab_runs.proofs.TraceLaws.{traceable}
pub use Rattle.lab_runs.specs.Runs.{GoesAstray, HasRunBy, RunsAstray}
pub use Rattle.lab_runs.specs.declared.following.Astray.{Astray}
pub use Rattle.lab_runs.specs.declared.running.Ran.{Ran}
pub use Rattle.reasons.specs.Told.{IsTold}
pub use Rattle.runner.proofs.Ends.{of_told, reads_nothing}
pub use Rattle.runner.specs.Endings.{Change, Failed, Writes, WritesNothing}
pub use Rattle.runner.specs.Texts.{offence_text}
pub use Rattle.schedule.specs.Causes.{refused_text}
pub use Rattle.schedule.specs.Scheduled.{FailsScheduled, scheduled_of}
pub use Rattle.schedule.specs.declared.orders.Line.{Line}
pub use Rattle.schedule.specs.declared.reader.ScheduleFault.{ScheduleFault}
pub use Rattle.schedule.specs.declared.refusals.Refused.{Refused}
pub use Rattle.script.specs.Plans.{Plan}
pub use Rattle.site_io.specs.Streams.{ConsumesFront}
pub use Rattle.site_io.specs.declared.whole.Unread.{Unread}
pub use Rattle.text_model.specs.Lines.{lines_of}
pub use Rattle.lab_calls.specs.Counted.{CountsTo}
pub use Rattle.lab_calls.specs.Endings.{EndsAstray, EndsBy, EndsFault, EndsRun, EndsSo, FollowsTo, LabEnds, Printed, ReadsTo, RunsTo, ServesBy, ServesTo, Unreads, WritesRefused, text_of}
pub use Rattle.lab_calls.specs.Judged.{Explains, JudgesTo}
pub use Rattle.lab_calls.specs.Texts.{usage_text}
pub use Rattle.lab_calls.specs.Words.{limit_of}
pub use Rattle.lab_calls.specs.declared.status.Status.{Status}
pub use Rattle.lab_calls.specs.declared.words.Form.{Form}
