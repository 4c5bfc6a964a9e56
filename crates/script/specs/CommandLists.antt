-- The commands of the process that is being read (own).
use Rattle.std.specs.Prelude.{◌≡◌, ℕ, ◌+◌, nat_le, List, [], ◌∷◌, ◌++◌, Result, Ok, Err}
use Rattle.script.specs.Forms.{weight}
use Rattle.script.specs.Lines.{only_if}
use Rattle.script.specs.declared.commands.Command.{Command}
use Rattle.script.specs.declared.drafts.LineFault.{LineFault}
use Rattle.script.specs.declared.drafts.LineFault.TheVariants as fault
use Rattle.script.specs.declared.refusals.Cause.{Cause}
use Rattle.script.specs.declared.refusals.Cause.TheVariants as cause

-- its commands so far; and how many commands came in all, an await counted as its tries
pub record ListPlan : Type 0 where
  pub commands : List Command
  pub used : ℕ

-- the list with one command more
abbrev pub longer : ListPlan → Command → ListPlan
longer l c = record { commands = l.commands ++ c ∷ []; used = l.used + weight c }

-- the command that was read comes next; at most 100,000 in all
abbrev pub listed : ListPlan → Result Command Cause → Result ListPlan Cause
listed l (Ok c) = only_if cause.Many (nat_le (l.used + weight c) 100000) (longer l c)
listed l (Err e) = Err e

-- a list that was changed has the command that was read; where that is refused, or memory ran out, it is as before
abbrev pub Lists : ListPlan → ListPlan → Result (Unit {0}) LineFault → Result Command Cause → Type 0
Lists old new (Ok u) read = listed old read ≡ Ok new
Lists old new (Err (fault.Refused e)) read = (new ≡ old) × (listed old read ≡ Err e)
Lists old new (Err fault.Memory) read = new ≡ old
