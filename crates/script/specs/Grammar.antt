-- The script of some bytes, or the first refusal (own).
use Rattle.std.specs.Prelude.{◌≡◌, ℕ, ◌+◌, Bool, not, ◌&&◌, ◌==◌, if◌then◌else◌, List, [], ◌∷◌, fold, slice_index_or, Result, Ok, Err}
use Rattle.script.specs.Drafts.{DraftPlan, blank, has_volume, is_inside}
use Rattle.text_model.specs.Lines.{lines_of, fields_of}
use Rattle.script.specs.Fields.{is_printable}
use Rattle.script.specs.Heads.{line_at}
use Rattle.script.specs.Plans.{Plan}
use Rattle.script.specs.declared.drafts.Stage.{Stage}
use Rattle.script.specs.declared.refusals.Cause.{Cause}
use Rattle.script.specs.declared.refusals.Cause.TheVariants as cause
use Rattle.script.specs.declared.refusals.Refusal.{Refusal}
use Rattle.script.specs.declared.reader.ScriptFault.{ScriptFault}
use Rattle.script.specs.declared.reader.ScriptFault.TheVariants as fault

-- a first field that begins with `#`: the line is skipped
abbrev pub is_comment : List ℕ → Bool
is_comment word = slice_index_or word 0 0 == 35

-- the draft after a line of these fields; one without fields is skipped too
unfoldable pub line_after : DraftPlan → List (List ℕ) → Result DraftPlan Cause
line_after d [] = Ok d
line_after d (word ∷ fields) = if is_comment word then Ok d else line_at d.stage d word fields

-- the draft after a line of these bytes
unfoldable pub text_after : DraftPlan → List ℕ → Result DraftPlan Cause
text_after d line = if is_printable line then line_after d (fields_of line) else Err cause.BadChar

-- the number of the next line and the draft after line n, or that it is refused
abbrev pub after_number : ℕ → Result DraftPlan Cause → Result (ℕ × DraftPlan) Refusal
after_number n (Ok d) = Ok (n + 1, d)
after_number n (Err why) = Err (record { line = n; cause = why })

-- one more line; the first refused line decides
unfoldable pub numbered : Result (ℕ × DraftPlan) Refusal → List ℕ → Result (ℕ × DraftPlan) Refusal
numbered (Ok s) line = after_number s.0 (text_after s.1 line)
numbered (Err e) line = Err e

-- no line must still come: no volume, and no command of a process
abbrev pub is_whole : Stage → Bool
is_whole s = has_volume s && not (is_inside s)

-- the script of the lines up to the one of that number, which isn't there
abbrev pub whole_or_missing : ℕ → DraftPlan → Result Plan Refusal
whole_or_missing n d = if is_whole d.stage then Ok d.plan else Err (record { line = n; cause = cause.Missing })

unfoldable pub finished : Result (ℕ × DraftPlan) Refusal → Result Plan Refusal
finished (Ok s) = whole_or_missing s.0 s.1
finished (Err e) = Err e

-- the script that some bytes are, or the first line that is refused and why
unfoldable pub script_of : List ℕ → Result Plan Refusal
script_of bytes = finished (fold numbered (Ok (1, blank)) (lines_of bytes))

-- what reading lines gave, and the draft that it left, is what the lines give, unless memory ran out
abbrev pub ReadsLines : DraftPlan → Result ℕ ScriptFault → Result (ℕ × DraftPlan) Refusal → Type 0
ReadsLines new (Ok n) read = read ≡ Ok (n, new)
ReadsLines new (Err (fault.Refused r)) read = read ≡ Err r
ReadsLines new (Err fault.Memory) read = Unit {0}

-- what reading gave is what the bytes are, unless memory ran out
abbrev pub Reads : Result Plan ScriptFault → Result Plan Refusal → Type 0
Reads (Ok s) read = read ≡ Ok s
Reads (Err (fault.Refused r)) read = read ≡ Err r
Reads (Err fault.Memory) read = Unit {0}
