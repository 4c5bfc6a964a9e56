-- How each way out of a call ends.
pub use Rattle.lab_calls.proofs.Prelude.{Astray, Bool, Change, ConsumesFront, CountsTo, EndsAstray, EndsBy, EndsFault, EndsRun, EndsSo, Err, Failed, FailsScheduled, FollowsTo, Form, GoesAstray, HasRunBy, IfSome, JudgesTo, LabEnds, Line, List, None, Ok, Option, Plan, Printed, Ran, ReadsTo, Refused, Result, RunsAstray, RunsTo, ScheduleFault, ServesBy, ServesTo, Some, Status, Unread, Unreads, Writes, WritesNothing, WritesRefused, ap, arith, false, length, limit_of, lines_of, of_told, reads_nothing, refl, refused_text, rules, scheduled_of, subst, sym, text_of, traceable, true, usage_text, ℕ, ◌+◌, ◌<◌, ◌∙◌, ◌≡◌, ◌≤◌}
use Rattle.site_io.specs.declared.whole.Unread.TheVariants as unread
use Rattle.schedule.specs.declared.reader.ScheduleFault.TheVariants as fault
use Rattle.lab_calls.specs.declared.status.Status.TheVariants as status
use Rattle.lab_calls.specs.declared.words.Form.TheVariants as form

-- the output of a machine that has followed a schedule was printed
pub run_printed : (traced : Bool) (p : Plan) (lines : List Line) (ran : Ran) (s : Status) (out : Change)
    → HasRunBy p lines ran → Printed s out (text_of traced ran) → FollowsTo traced p lines s out
run_printed traced p lines ran status.Done out run h = record { ran = ran; run = run; printed = h }
run_printed traced p lines ran status.WriteFault out run h = record { ran = ran; run = run; printed = h }
run_printed traced p lines ran status.Memory out run h = h
run_printed traced p lines ran _ out run h = absurd h

-- the same, whole
pub run_ends : (traced : Bool) (p : Plan) (lines : List Line) (ran : Ran) (s : Status) (out : Change)
    → HasRunBy p lines ran → Printed s out (text_of traced ran) → RunsTo traced p lines s out
run_ends traced p lines ran s out run h = record { so = run_printed traced p lines ran s out run h }

-- what the bytes are decides
there : (traced : Bool) (bytes : List ℕ) (read : Result (Plan × List Line) ScheduleFault) (s : Status) (out : Change)
    → scheduled_of (lines_of bytes) ≡ read → ReadsTo traced read s out
    → ReadsTo traced (scheduled_of (lines_of bytes)) s out
there traced bytes read s out e h =
    subst (λ (x : Result (Plan × List Line) ScheduleFault). ReadsTo traced x s out) (sym e) h

pub ends_run : (traced : Bool) (bytes : List ℕ) (read : Result (Plan × List Line) ScheduleFault) (s : Status)
    (out : Change) → scheduled_of (lines_of bytes) ≡ read → ReadsTo traced read s out → EndsRun traced bytes s out
ends_run traced bytes (Ok x) status.Memory out e h = h
ends_run traced bytes (Err (fault.Script r)) status.Memory out e h = h
ends_run traced bytes (Err (fault.Schedule r)) status.Memory out e h = h
ends_run traced bytes (Err fault.Memory) status.Memory out e h = absurd h
ends_run traced bytes read s out e h = there traced bytes read s out e h

pub bytes_run : (traced : Bool) (bytes : List ℕ) (p : Plan) (lines : List Line) (s : Status) (out : Change)
    → scheduled_of (lines_of bytes) ≡ Ok (p, lines) → RunsTo traced p lines s out → ServesTo traced bytes s out
bytes_run traced bytes p lines s out e h = record { so = ends_run traced bytes (Ok (p, lines)) s out e h.so }

no_length : (traced : Bool) (read : Result (Plan × List Line) ScheduleFault) (out : Change)
    → ReadsTo traced read status.TooLong out → ⊥
no_length traced (Ok x) out h = h
no_length traced (Err (fault.Script r)) out h = h
no_length traced _ out h = h

no_fault : (traced : Bool) (read : Result (Plan × List Line) ScheduleFault) (out : Change)
    → ReadsTo traced read status.ReadFault out → ⊥
no_fault traced (Ok x) out h = h
no_fault traced (Err (fault.Script r)) out h = h
no_fault traced _ out h = h

-- the same by what was asked for
memory_by : (f : Form) (bytes : List ℕ) (out : Change) → EndsBy f bytes status.Memory out → WritesNothing out
memory_by form.Steps bytes out h = h
memory_by _ bytes out h = h

no_length_by : (f : Form) (bytes : List ℕ) (out : Change) → EndsBy f bytes status.TooLong out → ⊥
no_length_by form.Steps bytes out h = no_length false (scheduled_of (lines_of bytes)) out h
no_length_by form.Trace bytes out h = no_length true (scheduled_of (lines_of bytes)) out h
no_length_by _ bytes out h = h

no_fault_by : (f : Form) (bytes : List ℕ) (out : Change) → EndsBy f bytes status.ReadFault out → ⊥
no_fault_by form.Steps bytes out h = no_fault false (scheduled_of (lines_of bytes)) out h
no_fault_by form.Trace bytes out h = no_fault true (scheduled_of (lines_of bytes)) out h
no_fault_by _ bytes out h = h

-- an input was read
module _ (f : Form) (src out : Change) (bytes : List ℕ) (told : IfSome src.before (λ all. bytes ≡ all))
    (few : length bytes ≤ limit_of f)
  where
    all_told : (s : Status) → EndsBy f bytes s out
        → IfSome src.before (λ all. (length all ≤ limit_of f) × EndsBy f all s out)
    all_told s h = of_told src.before bytes (λ all. (length all ≤ limit_of f) × EndsBy f all s out) told (few, h)

    pub ends_read : (s : Status) → EndsBy f bytes s out → EndsSo (Some f) s src out
    ends_read status.Memory h = memory_by f bytes out h
    ends_read status.TooLong h = absurd (no_length_by f bytes out h)
    ends_read status.ReadFault h = absurd (no_fault_by f bytes out h)
    ends_read s h = all_told s h

-- the source couldn't be read
pub ends_unread : (f : Form) (src out : Change) (s : Status) (u : Unread) → Unreads u s out
    → (u ≡ unread.TooLong → IfSome src.before (λ bytes. limit_of f < length bytes))
    → (u ≡ unread.ReadFault → Failed src) → EndsSo (Some f) s src out
ends_unread f src out s unread.TooLong un longer failed =
    subst (λ (x : Status). EndsSo (Some f) x src out) (sym un.0) (longer refl, un.1)
ends_unread f src out s unread.ReadFault un longer failed =
    subst (λ (x : Status). EndsSo (Some f) x src out) (sym un.0) (failed refl, un.1)
ends_unread f src out s unread.Memory un longer failed =
    subst (λ (x : Status). EndsSo (Some f) x src out) (sym un.0) un.1

-- the same, whole; the limit is that of the form
pub read_ends : (f : Form) (src out : Change) (bytes : List ℕ) (most : ℕ) (s : Status) → most ≡ limit_of f
    → IfSome src.before (λ all. bytes ≡ all) → length bytes ≤ most → ServesBy f bytes s out
    → ConsumesFront src.before src.after (most + 1) → LabEnds (Some f) src out s
read_ends f src out bytes most s is told few h reads = record {
  so = ends_read f src out bytes told (omega (arith, is, few)) s h.so;
  reads = subst (λ (n : ℕ). ConsumesFront src.before src.after (n + 1)) is reads;
}

pub unread_ends : (f : Form) (src out : Change) (most : ℕ) (s : Status) (u : Unread) → most ≡ limit_of f
    → Unreads u s out → (u ≡ unread.TooLong → IfSome src.before (λ bytes. most < length bytes))
    → (u ≡ unread.ReadFault → Failed src) → ConsumesFront src.before src.after (most + 1) → LabEnds (Some f) src out s
unread_ends f src out most s u is un longer failed reads = record {
  so = ends_unread f src out s u un
      (λ e. subst (λ (n : ℕ). IfSome src.before (λ bytes. n < length bytes)) is (longer e)) failed;
  reads = subst (λ (n : ℕ). ConsumesFront src.before src.after (n + 1)) is reads;
}

-- ---- what was asked for

pub asks : (asked is : Option Form) (src out : Change) (s : Status) → asked ≡ is → LabEnds is src out s
    → LabEnds asked src out s
asks asked is src out s e h = subst (λ (x : Option Form). LabEnds x src out s) (sym e) h

pub asked_none : (asked : Option Form) (src out : Change) (s : Status) → asked ≡ None → s ≡ status.Usage
    → Writes out usage_text → ConsumesFront src.before src.after 0 → LabEnds asked src out s
asked_none asked src out s e is text reads = asks asked None src out s e (record { so = (is, text); reads = reads })
