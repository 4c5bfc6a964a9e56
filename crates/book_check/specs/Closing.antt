-- The verdict on what follows the entries (own).
use Rattle.std.specs.Prelude.{◌≡◌, ◌↔◌, ℕ, List, [], Result, Ok, Err}
use Rattle.script.specs.Plans.{Plan}
use Rattle.book.specs.declared.entries.Entry.{Entry}
use Rattle.script.specs.declared.reader.ScriptFault.{ScriptFault}
use Rattle.script.specs.declared.reader.ScriptFault.TheVariants as unread
use Rattle.book_check.specs.declared.judge.LineFault.{LineFault}
use Rattle.book_check.specs.declared.judge.LineFault.TheVariants as broken
use Rattle.book_check.specs.Going.{Finds}
use Rattle.book_check.specs.Judging.{Judged, IsAfter}
use Rattle.book_check.specs.Verdicts.{IsJudged, IsVerdict}
use Rattle.book_check.specs.declared.offences.CheckFault.{CheckFault}
use Rattle.book_check.specs.declared.offences.CheckFault.TheVariants as fault

-- a verdict is of this kind, unless memory ran out
abbrev pub OrMemory : (Result ℕ CheckFault → Type 0) → Result ℕ CheckFault → Type 0
OrMemory P (Ok count) = P (Ok count)
OrMemory P (Err (fault.Script r)) = P (Err (fault.Script r))
OrMemory P (Err (fault.Refused o)) = P (Err (fault.Refused o))
OrMemory P (Err fault.Memory) = Unit {0}

-- what a line's fault comes to, at the line of this number
abbrev pub at_line : ℕ → LineFault → CheckFault
at_line n (broken.Broken r) = fault.Refused (record { line = n; rule = r })
at_line n broken.Memory = fault.Memory

-- what a script's fault comes to
abbrev pub of_script : ScriptFault → CheckFault
of_script (unread.Refused r) = fault.Script r
of_script unread.Memory = fault.Memory

-- what follows the entries so far, which are lines of a listing from number n on, is judged so
unfoldable pub Closes : Judged → ℕ → List (List ℕ) → Result ℕ CheckFault → Type 0
Closes j n summary result = (es : List Entry) → IsAfter j es → OrMemory (Finds j.script n es [] summary) result

-- this is how the lines of a listing are judged, and they are judged in no other way
unfoldable pub IsOneVerdict : Plan → ℕ → List (List ℕ) → Result ℕ CheckFault → Type 0
IsOneVerdict p n lines given = (v : Result ℕ CheckFault) → IsJudged p n lines v ↔ (v ≡ given)

-- this is how an input is judged, and it is judged in no other way
unfoldable pub IsTheVerdict : List ℕ → Result ℕ CheckFault → Type 0
IsTheVerdict bytes given = (v : Result ℕ CheckFault) → IsVerdict bytes v ↔ (v ≡ given)
