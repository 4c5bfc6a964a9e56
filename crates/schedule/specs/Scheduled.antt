-- A script with a schedule below it, or which line is refused and why (own).
use Rattle.std.specs.Prelude.{◌≡◌, ℕ, List, Result, Ok, Err, fold}
use Rattle.script.specs.Drafts.{blank}
use Rattle.script.specs.Grammar.{finished, numbered}
use Rattle.script.specs.Plans.{Plan}
use Rattle.script.specs.declared.reader.ScriptFault.{ScriptFault}
use Rattle.script.specs.declared.reader.ScriptFault.TheVariants as script_fault
use Rattle.script.specs.declared.refusals.Refusal.{Refusal}
use Rattle.schedule.specs.Inputs.{first_number, has_schedule, schedule_lines, script_lines}
use Rattle.schedule.specs.Orders.{orders_in}
use Rattle.schedule.specs.declared.orders.Line.{Line}
use Rattle.schedule.specs.declared.reader.ScheduleFault.{ScheduleFault}
use Rattle.schedule.specs.declared.reader.ScheduleFault.TheVariants as fault
use Rattle.schedule.specs.declared.reader.Scheduled.{Scheduled}
use Rattle.schedule.specs.declared.refusals.Refused.{Refused}

-- the script that some lines are, or the first of them that is refused and why
unfoldable pub script_of_lines : List (List ℕ) → Result Plan Refusal
script_of_lines lines = finished (fold numbered (Ok (1, blank)) lines)

-- What the lines of an input order, for so many processors: what the lines after the line `schedule` ask for, or the
-- first of them that is refused; where there is no line `schedule`, the line past the last is.
abbrev pub orders_of : ℕ → List (List ℕ) → Result (List Line) Refused
orders_of processors lines =
    orders_in processors (has_schedule lines) (first_number lines) (schedule_lines lines)

abbrev pub with_plan : Plan → Result (List Line) Refused → Result (Plan × List Line) ScheduleFault
with_plan p (Ok lines) = Ok (p, lines)
with_plan p (Err r) = Err (fault.Schedule r)

abbrev pub with_orders : List (List ℕ) → Result Plan Refusal → Result (Plan × List Line) ScheduleFault
with_orders lines (Ok p) = with_plan p (orders_of p.processors lines)
with_orders lines (Err r) = Err (fault.Script r)

-- the script and the schedule that the lines of an input are
unfoldable pub scheduled_of : List (List ℕ) → Result (Plan × List Line) ScheduleFault
scheduled_of lines = with_orders lines (script_of_lines (script_lines lines))

-- ---- what the functions give

-- what the fault of a script comes to
abbrev pub of_script : ScriptFault → ScheduleFault
of_script (script_fault.Refused r) = fault.Script r
of_script script_fault.Memory = fault.Memory

-- a fault of a schedule that was read, unless memory ran out; that of a script is none
abbrev pub FailsLines : ScheduleFault → Result (List Line) Refused → Type 0
FailsLines (fault.Schedule r) read = read ≡ Err r
FailsLines fault.Memory read = Unit {0}
FailsLines (fault.Script r) read = ⊥

-- lines that were read, seen by view
abbrev pub ReadsLines : {A : Type 0} → (A → List Line) → Result A ScheduleFault → Result (List Line) Refused → Type 0
ReadsLines view (Ok lines) read = read ≡ Ok (view lines)
ReadsLines view (Err e) read = FailsLines e read

abbrev pub FailsScheduled : ScheduleFault → Result (Plan × List Line) ScheduleFault → Type 0
FailsScheduled fault.Memory read = Unit {0}
FailsScheduled e read = read ≡ Err e

abbrev pub ReadsScheduled : Result Scheduled ScheduleFault → Result (Plan × List Line) ScheduleFault → Type 0
ReadsScheduled (Ok s) read = read ≡ Ok (s.script, s.lines.items)
ReadsScheduled (Err e) read = FailsScheduled e read
