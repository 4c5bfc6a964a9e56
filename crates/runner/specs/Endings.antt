-- How a call of the program may end, and what it leaves then. (own)
use Rattle.std.specs.Prelude.{◌≡◌, ◌⊎◌, ℕ, ◌+◌, ◌<◌, ◌≤◌, true, List, length, Option, Some, None, is_some, IfSome, IsSomeAnd, Result, Ok, Err}
use Rattle.std.specs.Io.KnownBytes.{Appends, Keeps}
use Rattle.site_io.specs.Faults.{Rose}
use Rattle.site_io.specs.Streams.{AppendsFront, ConsumesFront}
use Rattle.site_io.specs.declared.whole.Unread.{Unread}
use Rattle.site_io.specs.declared.whole.Unread.TheVariants as unread
use Rattle.script.specs.Grammar.{script_of}
use Rattle.script.specs.Plans.{Plan}
use Rattle.script.specs.declared.refusals.Refusal.{Refusal}
use Rattle.listing.specs.Listings.{listing_of}
use Rattle.make_work.specs.Day.{made}
use Rattle.drill.specs.Texts.{drill_text}
use Rattle.book_check.specs.Closing.{IsTheVerdict}
use Rattle.book_check.specs.declared.offences.CheckFault.{CheckFault}
use Rattle.book_check.specs.declared.offences.CheckFault.TheVariants as fault
use Rattle.book_check.specs.declared.offences.Offence.{Offence}
use Rattle.runner.specs.Runs.{IsRun, IsShutDown, Machine}
use Rattle.runner.specs.Texts.{accepted_text, offence_text, refusal_text, too_long_text, usage_text}
use Rattle.runner.specs.declared.finished.Finished.{Finished}
use Rattle.runner.specs.declared.finished.Status.{Status}
use Rattle.runner.specs.declared.finished.Status.TheVariants as status
use Rattle.runner.specs.declared.words.Form.{Form}
use Rattle.runner.specs.declared.words.Form.TheVariants as form

-- what is told of a source or a sink: its bytes, and how many of its calls failed, before a call and after it
pub record Change : Type 0 where
  pub before : Option (List ℕ)
  pub after : Option (List ℕ)
  pub faults_before : ℕ
  pub faults_after : ℕ

abbrev pub change : Option (List ℕ) → Option (List ℕ) → ℕ → ℕ → Change
change before after faults_before faults_after =
    record { before = before; after = after; faults_before = faults_before; faults_after = faults_after }

-- a call of it failed
abbrev pub Failed : Change → Type 0
Failed c = Rose c.faults_before c.faults_after

-- nothing was written
abbrev pub WritesNothing : Change → Type 0
WritesNothing out = Keeps out.before out.after

-- a text was written, and nothing else
abbrev pub WritesAll : Change → List ℕ → Type 0
WritesAll out text = Appends out.before out.after text

-- a front of a text was written, since a write failed
pub record WritesFront (out : Change) (text : List ℕ) : Type 0 where
  pub front : AppendsFront out.before out.after text
  pub fault : Failed out

-- a text was written, or a front of it where a write failed
pub data Writes (out : Change) (text : List ℕ) : Type 0 where
  whole : WritesAll out text → Writes out text
  cut : WritesFront out text → Writes out text

-- a machine runs the script that the source tells
pub record Runs (src : Change) (m : Machine) : Type 0 where
  pub within : IfSome src.before (λ bytes. length bytes ≤ 4194304)
  pub script : IfSome src.before (λ bytes. script_of bytes ≡ Ok m.state.plan)
  pub run : IsRun m

-- the forms that read the source: `run` a script, `check` a script with its listing
abbrev pub IsReading : Option Form → Type 0
IsReading (Some form.Run) = Unit {0}
IsReading (Some form.Check) = Unit {0}
IsReading _ = ⊥

-- the most bytes that they may have
abbrev pub limit_of : Option Form → ℕ
limit_of (Some form.Check) = 134217728
limit_of _ = 4194304

-- the script in the bytes is refused: of `check` the lines before the line `book`
abbrev pub IsRefused : Option Form → List ℕ → Refusal → Type 0
IsRefused (Some form.Check) bytes r = IsTheVerdict bytes (Err (fault.Script r))
IsRefused _ bytes r = script_of bytes ≡ Err r

-- the status that a fault of a listing comes to
abbrev pub IsStatusOf : CheckFault → Status → Type 0
IsStatusOf (fault.Script r) s = s ≡ status.Script r
IsStatusOf (fault.Refused o) s = s ≡ status.Refused o
IsStatusOf fault.Memory s = ⊥

-- a listing within the limit is judged so, and in no other way
abbrev pub IsJudgedSo : Change → Result ℕ CheckFault → Type 0
IsJudgedSo src v = IfSome src.before (λ bytes. (length bytes ≤ 134217728) × IsTheVerdict bytes v)

-- an output was written, or a write of it failed
abbrev pub HasPrinted : Status → Type 0
HasPrinted status.Done = Unit {0}
HasPrinted status.WriteFault = Unit {0}
HasPrinted _ = ⊥

-- how a call may end that has a machine
abbrev pub MayHaveRun : Status → Type 0
MayHaveRun s = HasPrinted s ⊎ (s ≡ status.Memory)

-- an output was printed: whole, a front of it where a write failed, or nothing for want of memory
abbrev pub Printed : Status → Change → List ℕ → Type 0
Printed status.Done out text = WritesAll out text
Printed status.WriteFault out text = WritesFront out text
Printed status.Memory out text = WritesNothing out
Printed _ out text = ⊥

-- What was written under a status that has no output: its text, or nothing where a read failed or there was no memory.
abbrev pub Says : Status → Change → Type 0
Says status.Usage out = Writes out usage_text
Says status.TooLong out = Writes out too_long_text
Says (status.Script r) out = Writes out (refusal_text r)
Says (status.Refused o) out = Writes out (offence_text o)
Says status.ReadFault out = WritesNothing out
Says status.Memory out = WritesNothing out
Says status.Done out = Unit {0}
Says status.WriteFault out = Unit {0}

-- the status that a source comes to which can't be read, and what was written
abbrev pub Unreads : Unread → Status → Change → Type 0
Unreads unread.TooLong s out = (s ≡ status.TooLong) × Writes out too_long_text
Unreads unread.ReadFault s out = (s ≡ status.ReadFault) × WritesNothing out
Unreads unread.Memory s out = (s ≡ status.Memory) × WritesNothing out

-- a refusal was written, or nothing for want of memory
abbrev pub Refuses : Status → Refusal → Change → Type 0
Refuses (status.Script s) r out = (s ≡ r) × Writes out (refusal_text r)
Refuses status.Memory r out = WritesNothing out
Refuses _ r out = ⊥

-- a line at fault was written, or nothing for want of memory
abbrev pub Offends : Status → Offence → Change → Type 0
Offends (status.Refused p) o out = (p ≡ o) × Writes out (offence_text o)
Offends status.Memory o out = WritesNothing out
Offends _ o out = ⊥

-- the listing of a machine was printed, once it was shut down; or there was no memory for that
abbrev pub PrintsRun : Status → Machine → Change → Type 0
PrintsRun status.Memory m out = WritesNothing out
PrintsRun s m out = IsShutDown m × Printed s out (listing_of m.state.plan m.state.entries)

-- what is left where a machine of a script was booted: a machine of that script, however its run ended
pub record LeavesRun (p : Plan) (s : Status) (m : Machine) (out : Change) : Type 0 where
  pub script : m.state.plan ≡ p
  pub run : IsRun m
  pub printed : PrintsRun s m out
  pub status : MayHaveRun s

-- there was no memory for a machine, or its listing was printed
abbrev pub PrintsIfRun : Status → Option Machine → Change → Type 0
PrintsIfRun s None out = (s ≡ status.Memory) × WritesNothing out
PrintsIfRun s (Some m) out = PrintsRun s m out

-- what the program prints in each of its forms
abbrev pub Prints : Option Form → Change → Option Machine → (List ℕ → Type 0) → Type 0
Prints (Some form.Run) src machine P = IsSomeAnd machine
    (λ m. IsShutDown m × P (listing_of m.state.plan m.state.entries))
Prints (Some form.Check) src machine P = (entries : ℕ) × IsJudgedSo src (Ok entries) × P (accepted_text entries)
Prints (Some (form.Make n)) src machine P = P (made n)
Prints (Some (form.Drill p f n seed)) src machine P = P (drill_text p f n seed)
Prints None src machine P = ⊥

-- why a call ended so, and what it wrote
abbrev pub EndsSo : Status → Option Form → Change → Change → Option Machine → Type 0
EndsSo status.Usage asked src out machine = (asked ≡ None) × Writes out usage_text
EndsSo status.ReadFault asked src out machine = IsReading asked × Failed src × WritesNothing out
EndsSo status.TooLong asked src out machine =
    IsReading asked × IfSome src.before (λ bytes. limit_of asked < length bytes) × Writes out too_long_text
EndsSo (status.Script r) asked src out machine =
    IsReading asked × IfSome src.before (λ bytes. (length bytes ≤ limit_of asked) × IsRefused asked bytes r)
    × Writes out (refusal_text r)
EndsSo (status.Refused o) asked src out machine =
    (asked ≡ Some form.Check) × IsJudgedSo src (Err (fault.Refused o)) × Writes out (offence_text o)
EndsSo status.Done asked src out machine = Prints asked src machine (WritesAll out)
EndsSo status.WriteFault asked src out machine = Prints asked src machine (WritesFront out)
EndsSo status.Memory asked src out machine = (is_some asked ≡ true) × WritesNothing out

-- how a call ended that was asked for this
pub record Ends (asked : Option Form) (src out : Change) (f : Finished) : Type 0 where
  pub so : EndsSo f.status asked src out f.machine
  pub run : IfSome f.machine (Runs src)
  pub booted : IfSome f.machine (λ m. MayHaveRun f.status)
  pub only : (asked ≡ Some form.Run → ⊥) → f.machine ≡ None
  pub reads : ConsumesFront src.before src.after (limit_of asked + 1)
