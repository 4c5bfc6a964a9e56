-- How a call of the program may end, and what it wrote (own).
use Rattle.std.specs.Prelude.{◌≡◌, ℕ, ◌+◌, ◌<◌, ◌≤◌, Bool, true, false, List, length, Option, Some, None, IfSome, Result, Ok, Err}
use Rattle.site_io.specs.Streams.{ConsumesFront}
use Rattle.site_io.specs.declared.whole.Unread.{Unread}
use Rattle.site_io.specs.declared.whole.Unread.TheVariants as unread
use Rattle.listing.specs.Listings.{listing_of}
use Rattle.runner.specs.Endings.{Change, Failed, Writes, WritesAll, WritesFront, WritesNothing}
use Rattle.runner.specs.Texts.{refusal_text, too_long_text}
use Rattle.schedule.specs.Causes.{refused_text}
use Rattle.schedule.specs.Scheduled.{scheduled_of}
use Rattle.schedule.specs.declared.orders.Line.{Line}
use Rattle.schedule.specs.declared.reader.ScheduleFault.{ScheduleFault}
use Rattle.schedule.specs.declared.reader.ScheduleFault.TheVariants as fault
use Rattle.schedule.specs.declared.refusals.Refused.{Refused}
use Rattle.text_model.specs.Lines.{lines_of}
use Rattle.script.specs.Plans.{Plan}
use Rattle.script.specs.declared.refusals.Refusal.{Refusal}
use Rattle.lab_calls.specs.Counted.{EndsOutcomes}
use Rattle.lab_calls.specs.Judged.{EndsVerdict}
use Rattle.lab_runs.specs.Runs.{GoesAstray, HasRunBy}
use Rattle.lab_calls.specs.Texts.{usage_text}
use Rattle.lab_runs.specs.Traces.{trace_text}
use Rattle.lab_runs.specs.declared.following.Astray.{Astray}
use Rattle.lab_runs.specs.declared.following.Astray.TheVariants as astray
use Rattle.lab_runs.specs.declared.running.Ran.{Ran}
use Rattle.lab_calls.specs.declared.status.Status.{Status}
use Rattle.lab_calls.specs.declared.status.Status.TheVariants as status
use Rattle.lab_calls.specs.Words.{limit_of}
use Rattle.lab_calls.specs.declared.words.Form.{Form}
use Rattle.lab_calls.specs.declared.words.Form.TheVariants as form

-- an output was written, or a write of it failed
abbrev pub HasPrinted : Status → Type 0
HasPrinted status.Done = Unit {0}
HasPrinted status.WriteFault = Unit {0}
HasPrinted _ = ⊥

-- an output was printed: whole, a front of it where a write failed, or nothing for want of memory
abbrev pub Printed : Status → Change → List ℕ → Type 0
Printed status.Done out text = WritesAll out text
Printed status.WriteFault out text = WritesFront out text
Printed status.Memory out text = WritesNothing out
Printed _ out text = ⊥

-- a script's refusal was written, or nothing for want of memory
abbrev pub WritesRefusal : Status → Refusal → Change → Type 0
WritesRefusal (status.Script s) r out = (s ≡ r) × Writes out (refusal_text r)
WritesRefusal status.Memory r out = WritesNothing out
WritesRefusal _ r out = ⊥

-- the same of a schedule's
abbrev pub WritesRefused : Status → Refused → Change → Type 0
WritesRefused (status.Schedule s) r out = (s ≡ r) × Writes out (refused_text r)
WritesRefused status.Memory r out = WritesNothing out
WritesRefused _ r out = ⊥

-- what was written of an input that is none, or for which there was no memory
abbrev pub EndsFault : ScheduleFault → Status → Change → Type 0
EndsFault (fault.Script r) s out = WritesRefusal s r out
EndsFault (fault.Schedule r) s out = WritesRefused s r out
EndsFault fault.Memory s out = (s ≡ status.Memory) × WritesNothing out

-- what was written of a schedule that can't be followed, or where there was no memory for that
abbrev pub EndsAstray : Astray → Status → Change → Type 0
EndsAstray (astray.Refused r) s out = WritesRefused s r out
EndsAstray astray.Memory s out = (s ≡ status.Memory) × WritesNothing out

-- the status that a source comes to which can't be read, and what was written
abbrev pub Unreads : Unread → Status → Change → Type 0
Unreads unread.TooLong s out = (s ≡ status.TooLong) × Writes out too_long_text
Unreads unread.ReadFault s out = (s ≡ status.ReadFault) × WritesNothing out
Unreads unread.Memory s out = (s ≡ status.Memory) × WritesNothing out

-- what is printed of a machine that followed a schedule: its listing, or its trace
abbrev pub text_of : Bool → Ran → List ℕ
text_of false r = listing_of r.machine.state.plan r.machine.state.entries
text_of true r = trace_text r.machine.state.plan r.machine.state.entries r.steps.items r.stepped r.finished

-- What is printed of a machine that has followed the lines of a schedule is so.
pub record PrintsRun (traced : Bool) (p : Plan) (lines : List Line) (P : List ℕ → Type 0) : Type 0 where
  pub ran : Ran
  pub run : HasRunBy p lines ran
  pub printed : P (text_of traced ran)

-- what is left of a script and the lines of its schedule: the output of a machine that has followed them, or the
-- refusal of a line that can't be followed
abbrev pub FollowsTo : Bool → Plan → List Line → Status → Change → Type 0
FollowsTo traced p lines status.Done out = PrintsRun traced p lines (WritesAll out)
FollowsTo traced p lines status.WriteFault out = PrintsRun traced p lines (WritesFront out)
FollowsTo traced p lines (status.Schedule r) out = GoesAstray p lines r × Writes out (refused_text r)
FollowsTo traced p lines status.Memory out = WritesNothing out
FollowsTo traced p lines _ out = ⊥

pub record RunsTo (traced : Bool) (p : Plan) (lines : List Line) (s : Status) (out : Change) : Type 0 where
  pub so : FollowsTo traced p lines s out

-- what is left of the script and the schedule that some bytes are, or of bytes that are none
abbrev pub ReadsTo : Bool → Result (Plan × List Line) ScheduleFault → Status → Change → Type 0
ReadsTo traced (Ok s) status out = FollowsTo traced s.0 s.1 status out
ReadsTo traced (Err (fault.Script r)) status out = WritesRefusal status r out
ReadsTo traced (Err (fault.Schedule r)) status out = WritesRefused status r out
ReadsTo traced (Err fault.Memory) status out = ⊥

-- the same of the bytes; or there was no memory, and nothing was written
abbrev pub EndsRun : Bool → List ℕ → Status → Change → Type 0
EndsRun traced bytes status.Memory out = WritesNothing out
EndsRun traced bytes s out = ReadsTo traced (scheduled_of (lines_of bytes)) s out

pub record ServesTo (traced : Bool) (bytes : List ℕ) (s : Status) (out : Change) : Type 0 where
  pub so : EndsRun traced bytes s out

-- what is left of some bytes, by what was asked for
abbrev pub EndsBy : Form → List ℕ → Status → Change → Type 0
EndsBy form.Steps bytes s out = EndsRun false bytes s out
EndsBy form.Trace bytes s out = EndsRun true bytes s out
EndsBy (form.Outcomes runs seed) bytes s out = EndsOutcomes runs seed bytes s out
EndsBy form.Why bytes s out = EndsVerdict bytes s out

pub record ServesBy (f : Form) (bytes : List ℕ) (s : Status) (out : Change) : Type 0 where
  pub so : EndsBy f bytes s out

-- why a call ended so, and what it wrote
abbrev pub EndsSo : Option Form → Status → Change → Change → Type 0
EndsSo None s src out = (s ≡ status.Usage) × Writes out usage_text
EndsSo (Some f) status.ReadFault src out = Failed src × WritesNothing out
EndsSo (Some f) status.TooLong src out =
    IfSome src.before (λ bytes. limit_of f < length bytes) × Writes out too_long_text
EndsSo (Some f) status.Memory src out = WritesNothing out
EndsSo (Some f) s src out = IfSome src.before (λ bytes. (length bytes ≤ limit_of f) × EndsBy f bytes s out)

-- the most bytes that are read
abbrev pub limit_asked : Option Form → ℕ
limit_asked None = 0
limit_asked (Some f) = limit_of f + 1

-- how a call ended that was asked for this
pub record LabEnds (asked : Option Form) (src out : Change) (s : Status) : Type 0 where
  pub so : EndsSo asked s src out
  pub reads : ConsumesFront src.before src.after (limit_asked asked)
